-- The kind of the sector that a walker has to write (change request Q-13: "offset in decimal, a space, D or Z").
-- Assumes nothing.
use Rattle.std.specs.Prelude.{Bool, true, false}
use Rattle.vhdx_pieces_walk.specs.declared.Stage.{Stage}
use Rattle.vhdx_pieces_walk.specs.declared.Stage.TheVariants as stage
use Rattle.vhdx_pieces_walk.specs.declared.Walker.{Walker}

-- it is a data descriptor's, not one of a zero descriptor's
abbrev pub is_data_in : Stage → Bool
is_data_in (stage.Sector d) = true
is_data_in (stage.Zeros e) = false
is_data_in stage.Header = false
is_data_in stage.Descriptors = false
is_data_in (stage.Data d) = false

abbrev pub is_data_of : Walker → Bool
is_data_of w = is_data_in w.stage
