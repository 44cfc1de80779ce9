-- Attach, from what its parts promise: an answer that refuses, and planned work that is done and whose image is read.
-- Assumes nothing.
use mathlib.Core.Path.{◌≡◌, sym, ap, ◌∙◌}
use mathlib.Core.List.{List}
use Prim.Native.Nat.{ℕ, ◌+◌}
use native.Mathlib.Omega.{arith}
use lib.ListN.{length, take}
use lib.Seq.{length-take-le, take-take}
use Rattle.extent.specs.declared.Extent.{Extent}
use Rattle.extent.specs.Extent.{mib}
use Rattle.vhdx_facts.specs.Ranges.{no_facts}
use Rattle.vhdx_header.specs.Current.{first_mib}
use Rattle.vhdx_header.proofs.Laws.{read_again}
use Rattle.vhdx_tables.specs.Tables.{tables}
use Rattle.vhdx_log.specs.declared.Work.{Work}
use Rattle.vhdx_log.specs.Work.{Plan, refused, apply, count}
use Rattle.vhdx_log.specs.Plan.{plan}
use Rattle.vhdx_steps.specs.Steps.{File, runs, steps}
use Rattle.vhdx_steps.specs.Calls.{file}
use Rattle.vhdx_replay.specs.Planned.{log_extent, Planned}
use Rattle.vhdx_replay.proofs.Applying.{planned, header, here, plan-is, known, extent-is}
use Rattle.vhdx_replay.proofs.Done.{done-size, holds_first, fits, done, same-buffer, same_start}
use Rattle.vhdx.specs.Attach.{Attached, image_of, after_attach, read, told, answer_by, attach_answer}

-- ---- a refusal

module _ (b : List ℕ) (n c : ℕ) (e : refused c ≡ plan b n) where
  pub refused-answer : ◌≡◌ {A = Attached} (record { refusal = c; length = n; count = 0; facts = no_facts }) (attach_answer (file b n))
  unfolding attach_answer after_attach
  refused-answer =
      ap (λ (p : Plan). answer_by p (runs (steps p) (file b n))) e

  pub refused-buffer : b ≡ (after_attach (file b n)).buffer
  unfolding after_attach
  refused-buffer = ap (λ (p : Plan). (runs (steps p) (file b n)).buffer) e

-- ---- the work, done

module _ (b : List ℕ) (n : ℕ) (log : Extent) (w : Work) (p : Planned b n log w) where
  -- g is the buffer as the code leaves it
  module _ (g : List ℕ) (did : g ≡ (runs (take (w.count + 1) (steps (plan b n))) (file b n)).buffer) where
    image-long : length (take w.length g) ≡ w.length
    image-long = length-take-le w.length g (fits b n log w p g did)

    image-start : first_mib (take w.length g) ≡ first_mib g
    unfolding first_mib
    image-start = take-take mib w.length g (holds_first b n log w p)

    -- the header that is current after the replay names the same log
    log-again : log_extent (take w.length g) (length (take w.length g)) ≡ log
    log-again =
        ap (log_extent (take w.length g)) image-long
        ∙ extent-is (take w.length g) w.length
        (read_again b n (header b n log w p).1 (take w.length g) w.length (image-start ∙ same_start b n log w p g did) (known b n log w p).grows (omega (arith, image-long)))
        ∙ sym (here b n log w p)

    pub answer : told (tables (take w.length g) log) w.length w.count ≡ attach_answer (file b n)
    unfolding attach_answer after_attach read
    answer =
        let f : File = runs (steps (apply w.length (planned b log w))) (file b n) in
        let image : take w.length g ≡ image_of f = ap (take w.length) (same-buffer b n log w p g did) ∙ ap (λ (k : ℕ). take k f.buffer) (sym (done-size b n log w p)) in
        ap (λ (e : Extent). told (tables (take w.length g) e) w.length w.count) (sym log-again)
        ∙ ap (λ (i : List ℕ). told (tables i (log_extent i (length i))) w.length w.count) image
        ∙ ap (λ (k : ℕ). told (tables (image_of f) (log_extent (image_of f) (length (image_of f)))) k w.count) (sym (done-size b n log w p))
        ∙ ap (told (tables (image_of f) (log_extent (image_of f) (length (image_of f)))) f.size) (p.counted ∙ ap count (plan-is b n log w p))
        ∙ ap (λ (x : Plan). answer_by x (runs (steps x) (file b n))) (sym (plan-is b n log w p))

    pub buffer : g ≡ (after_attach (file b n)).buffer
    unfolding after_attach
    buffer = done b n log w p g did
