-- The plan of closing is made again from every file that an unfinished close leaves; and once the header is written, closing has
-- nothing to do.
-- Assumes nothing.
use Rattle.std.specs.Prelude.{Result, Ok}
use Rattle.decision.specs.declared.Refusal.{Refusal}
use mathlib.Core.Path.{◌≡◌, sym, ap, subst, ◌∙◌}
use mathlib.Core.Bool.{true}
use mathlib.Core.List.{List, []}
use mathlib.Core.Logic.{inl, inr, ⊎_elim}
use Prim.Native.Nat.{ℕ, ◌+◌, ◌^◌, ◌≤◌, ◌<◌}
use native.Mathlib.Omega.{arith}
use lib.Dec.{eqb, ltb}
use lib.ListN.{length, take, drop, get_or}
use lib.Seq.{take-take}
use borrow.Author.Tests.{ltb-true, eq-eqb, le-leb}
use Rattle.field.specs.Fields.{Bytes, number, starts}
use Rattle.field.proofs.Bytes.{bytes_take, bytes_drop}
use Rattle.extent.specs.Extent.{mib}
use Rattle.vhdx_header.specs.declared.Header.{Header}
use Rattle.vhdx_header.specs.Header.{sequence_number_of, valid_header, field_rules, contents}
use Rattle.vhdx_header.specs.Current.{vhdxfile, header_at, first_mib, current_header, other_slot}
use Rattle.vhdx_header.proofs.Laws.{accepted}
use Rattle.vhdx_header.proofs.Standing.{Slots, Standing, standing, current-by}
use Rattle.vhdx_walk.specs.Entries.{Sector, length_limit}
use Rattle.vhdx_log.specs.Work.{apply, apply_within}
use Rattle.vhdx_log.specs.Plan.{log_bytes, extent_of, plan_log, plan_header, plan}
use Rattle.vhdx_log.proofs.Again.{plan-again-by}
use Rattle.vhdx_steps.specs.Steps.{File}
use Rattle.vhdx_steps.specs.Calls.{plan_of}
use Rattle.vhdx_steps.proofs.Bytes.{part-long}
use Rattle.vhdx_steps.proofs.Reading.{applied, same-part}
use Rattle.vhdx_steps.proofs.Sectors.{Kept}
use Rattle.vhdx_rewrite.specs.Rewrite.{closed_header}
use Rattle.vhdx_rewrite.specs.Rewrite.{greatest}
use Rattle.vhdx_close_steps.specs.Close.{slot_in, close_plan}
use Rattle.vhdx_close_steps.specs.Safety.{HasNoLog}
use Rattle.vhdx_rewrite.proofs.Parts.{starts-same}
use Rattle.vhdx_rewrite.proofs.Slots.{slots-low, slots_apart, slots-back, slots-turned, slot-part, slot_same}
use Rattle.vhdx_rewrite.proofs.Rewriting.{closed-number, closed-guid, closed-rest, closed-valid, closed-rules}

begins-same : (b b' : List ℕ) → mib ≤ length b' → mib ≤ length b → ((i : ℕ) → i < 8 → get_or b' i 0 ≡ get_or b i 0)
    → starts (first_mib b') vhdxfile ≡ starts (first_mib b) vhdxfile
unfolding first_mib
begins-same b b' h' h s =
    starts-same (take mib b) (take mib b') vhdxfile
    (take-take 8 mib b' (omega arith) ∙ same-part 0 8 b b' (omega arith) (omega arith) (λ i l u. s i u) ∙ sym (take-take 8 mib b (omega arith)))

-- ---- a file whose plan applies

module _ (identifier : List ℕ) (o : File) (h : Header) (k : current_header o.buffer o.size ≡ Ok h) {m : ℕ} {ss : List Sector} (e : plan_of o ≡ apply m ss) where
  stands : Standing (first_mib o.buffer) h
  stands = standing o.buffer o.size k

  -- the write of the header lies in the first MiB
  pub slots-of : Slots h.slot (other_slot h.slot)
  slots-of = stands.slots

  large : mib ≤ length o.buffer
  large = omega (arith, (accepted o.buffer o.size k).holds_first, (accepted o.buffer o.size k).fits)

  pub long : length (slot_in o h.slot) ≡ 4096
  long =
      let low = slots-low slots-of in
      ap length (slot-part o.buffer h.slot low.1 large) ∙ part-long o.buffer h.slot 4096 (omega (arith, low.1, large))

  -- byte i of the first MiB or the log, outside the slot that closing writes
  abbrev pub KeptHere : ℕ → Type 0
  KeptHere i = Kept (extent_of h) i × ¬ ((other_slot h.slot ≤ i) × (i < other_slot h.slot + 4096))

  module _ (f : File) (fits : m ≤ length f.buffer) (longer : o.size ≤ f.size) (below : f.size ≤ m)
      (s : (i : ℕ) → KeptHere i → get_or f.buffer i 0 ≡ get_or o.buffer i 0) where
    large-now : mib ≤ length f.buffer
    large-now = omega (arith, (accepted o.buffer o.size k).holds_first, longer, below, fits)

    pub current-kept : slot_in f h.slot ≡ slot_in o h.slot
    current-kept =
        let low = slots-low slots-of in
        slot_same o.buffer f.buffer h.slot low.1 large-now large
        (λ i a b. s i (inl (omega (arith, low.1)), λ x. ⊎_elim (λ y. omega (arith, x.0)) (λ y. omega (arith, x.1)) (slots_apart slots-of)))

    begins : starts (first_mib f.buffer) vhdxfile ≡ true
    begins =
        let low = slots-low slots-of in
        begins-same o.buffer f.buffer large-now large (λ i a. s i (inl (omega arith), λ x. omega (arith, x.0, low.2)))
        ∙ stands.begins

    log-same : log_bytes h f.buffer ≡ log_bytes h o.buffer
    unfolding log_bytes
    log-same =
        let a = accepted o.buffer o.size k in
        let low = slots-low slots-of in
        same-part h.log_offset h.log_length o.buffer f.buffer (omega (arith, a.inside, longer, below, fits)) (omega (arith, a.inside, a.fits))
        (λ i from to. s i (inr (from, to), λ x. omega (arith, x.1, low.3, a.placed.start)))

    -- ---- the header is not yet written: what stands in its slot is what stood there, or is not valid
    module _ (dormant : valid_header (slot_in f (other_slot h.slot)) ≡ true → slot_in f (other_slot h.slot) ≡ slot_in o (other_slot h.slot)) where
      stands-still : Standing (first_mib f.buffer) h
      stands-still =
          record {
            begins = begins;
            slots = slots-of;
            rules = record {
              valid = ap valid_header current-kept ∙ stands.rules.valid;
              greater = λ v.
                  let same = dormant v in
                  let less = stands.rules.greater (sym (ap valid_header same) ∙ v) in
                  omega (arith, less, ap sequence_number_of same, ap sequence_number_of current-kept);
            };
            keeps = ap field_rules current-kept ∙ stands.keeps;
            same = ap (contents h.slot) current-kept ∙ stands.same;
          }

      pub still-current : current_header f.buffer f.size ≡ Ok h
      still-current =
          let a = accepted o.buffer o.size k in
          current-by f.buffer f.size h (omega arith) (omega (arith, a.holds_first)) (omega (arith, a.inside)) stands-still

      pub plan-still : plan_of f ≡ apply m ss
      plan-still =
          plan-again-by o.buffer f.buffer longer below fits
          (λ h' k'. let same : h ≡ h' = cc (sym k ∙ k') in subst (λ (x : Header). log_bytes x f.buffer ≡ log_bytes x o.buffer) same log-same)
          (λ h' k'. let same : h ≡ h' = cc (sym k ∙ k') in still-current ∙ ap Ok same)
          e

      pub close-again : close_plan identifier f ≡ close_plan identifier o
      unfolding close_plan
      close-again = rw (still-current, plan-still, k, e, current-kept)

    -- ---- the header is written
    module _ (sixteen : length identifier ≡ 16) (named-bytes : Bytes identifier) (bytes : Bytes o.buffer) (raisable : ltb h.sequence_number greatest ≡ true)
        (full : f.size ≡ m) (written : slot_in f (other_slot h.slot) ≡ closed_header (slot_in o h.slot) identifier) where
      slot-bytes : Bytes (slot_in o h.slot)
      unfolding header_at first_mib
      slot-bytes = bytes_take 4096 (drop h.slot (take mib o.buffer)) (bytes_drop h.slot (take mib o.buffer) (bytes_take mib o.buffer bytes))

      number_is : sequence_number_of (slot_in o h.slot) ≡ h.sequence_number
      number_is = ap (λ (x : Header). x.sequence_number) stands.same

      no_wrap : sequence_number_of (slot_in o h.slot) + 1 < 2 ^ 64
      no_wrap = omega (arith, number_is, ltb-true h.sequence_number greatest raisable)

      -- the header that is current now
      now-current : Header
      now-current = contents (other_slot h.slot) (closed_header (slot_in o h.slot) identifier)

      same_place : (now-current.log_offset ≡ h.log_offset) × (now-current.log_length ≡ h.log_length)
      unfolding now-current
      same_place = (
        closed-rest (slot_in o h.slot) identifier long sixteen 72 8 (omega arith) (omega arith) ∙ ap (λ (x : Header). x.log_offset) stands.same,
        closed-rest (slot_in o h.slot) identifier long sixteen 68 4 (omega arith) (omega arith) ∙ ap (λ (x : Header). x.log_length) stands.same,
      )

      stands-new : Standing (first_mib f.buffer) now-current
      unfolding now-current
      stands-new =
          record {
            begins = begins;
            slots = rw (slots-back slots-of) (slots-turned slots-of);
            rules = record {
              valid = ap valid_header written ∙ closed-valid (slot_in o h.slot) identifier long sixteen slot-bytes named-bytes stands.rules.valid;
              greater = λ v.
                  let back = ap (slot_in f) (slots-back slots-of) ∙ current-kept in
                  omega (arith, ap sequence_number_of back, ap sequence_number_of written, closed-number (slot_in o h.slot) identifier long sixteen no_wrap);
            };
            keeps = ap field_rules written ∙ closed-rules (slot_in o h.slot) identifier long sixteen stands.keeps;
            same = ap (contents (other_slot h.slot)) written;
          }

      new-current : current_header f.buffer f.size ≡ Ok now-current
      new-current =
          let a = accepted o.buffer o.size k in
          current-by f.buffer f.size now-current (omega arith) (omega (arith, a.holds_first))
          (omega (arith, a.inside, same_place.0, same_place.1)) stands-new

      no_identifier : number now-current.log_guid ≡ 0
      unfolding now-current
      no_identifier = ap number (closed-guid (slot_in o h.slot) identifier long sixteen)

      no-log : eqb (number now-current.log_guid) 0 ≡ true
      no-log = eq-eqb (number now-current.log_guid) 0 no_identifier

      fits-here : apply_within (length f.buffer) f.size [] ≡ apply m []
      fits-here =
          let a = applied o h k e in
          rw (le-leb f.size (length f.buffer) (omega arith), le-leb f.size length_limit (omega (arith, a.limit)))
          (ap (λ (n : ℕ). apply n []) full)

      -- the log is gone
      plan_new : plan_of f ≡ apply m []
      unfolding plan plan_header plan_log
      plan_new =
          ap (λ (a : Result Header Refusal). plan_header a f.buffer f.size) new-current
          ∙ rw no-log fits-here

      pub gone : HasNoLog f
      gone =
          record {
            header = now-current;
            current = new-current;
            no_identifier = no_identifier;
            no_work = plan_new ∙ ap (λ (n : ℕ). apply n []) (sym full);
          }

      -- closing has nothing more to do
      pub close-done : close_plan identifier f ≡ apply m []
      unfolding close_plan
      close-done = rw (new-current, plan_new, no-log)
