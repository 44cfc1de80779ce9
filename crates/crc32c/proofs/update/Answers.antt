-- `crc32c::update` meets its contract: after each byte the state is what the bytes so far give.
use Rattle.std.proofs.Common.{rules, refl, subst}
use Rattle.std.specs.Prelude.{[], ◌∷◌, ◌≡◌}
use Rattle.std.proofs.lemmas.Fn.{fold_over, slice_gives, fronts}
use Rattle.crc32c.specs.Crc.{updates}
use Rattle.crc32c.proofs.Laws.{updates-append}
use Rattle.crc32c.proofs.update.Goals as goal

pub returns : goal.returns
unfolding updates
returns c =
    subst (λ l. c.fold.result ≡ updates c.args.state l) c.iter.ensures.rest
    (fold_over fronts (λ y. y.now) _ (λ ys s. s ≡ updates c.args.state ys) _ (λ ys s b next f' k seen. let more = updates-append c.args.state ys (b.now ∷ []) in search rules)
    _ _ _ _ (slice_gives c.iter.result) refl c.fold.ensures.ran)
