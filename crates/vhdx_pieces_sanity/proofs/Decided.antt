-- The test of a machine decides what a machine keeps to.
-- Assumes nothing.
use Prim.Native.Nat.{ℕ, ◌<◌}
use Rattle.vhdx_sequence.specs.declared.lap.Place.{Place}
use Rattle.vhdx_sequence.specs.declared.scan.Trace.{Trace}
use Rattle.vhdx_sequence.specs.Scan.{Placed}
use Rattle.vhdx_pieces_entry.specs.declared.Reading as entry
use Rattle.vhdx_pieces_entry.specs.Pass as pass
use Rattle.vhdx_pieces_entry.specs.Pass.{from_of}
use Rattle.vhdx_pieces_scan.specs.declared.Stage as scan
use Rattle.vhdx_pieces_scan.specs.declared.Stage.TheVariants as scan_stage
use Rattle.vhdx_pieces_scan.specs.declared.Scanner.{Scanner}
use Rattle.vhdx_pieces_scan.specs.Scanning as scanning
use Rattle.vhdx_pieces_survey.specs.declared.Tour.{Tour}
use Rattle.vhdx_pieces_survey.specs.Touring as touring
use Rattle.vhdx_pieces_plan.specs.declared.Context.{Context}
use Rattle.vhdx_pieces_plan.specs.declared.Phase.{Phase}
use Rattle.vhdx_pieces_plan.specs.declared.Phase.TheVariants as phase
use Rattle.vhdx_pieces_plan.specs.declared.Order.{Order}
use Rattle.vhdx_pieces_plan.specs.Planning.{Bounded, SaneIn, OrderFor}
use Rattle.vhdx_pieces_walk.specs.declared.Bounds.{Bounds}
use Rattle.vhdx_pieces_walk.specs.declared.Stage as walk
use Rattle.vhdx_pieces_walk.specs.declared.Stage.TheVariants as walk_stage
use Rattle.vhdx_pieces_walk.specs.declared.Walker.{Walker}
use Rattle.vhdx_pieces_walk.specs.Walking.{Standing, Opened, ReadingIn, WritingIn, allowed}
use Rattle.vhdx_pieces.specs.declared.Machine.{Machine}
use Rattle.vhdx_pieces.specs.declared.Machine.TheVariants.{Planning, Growing, Reading, Writing}
use Rattle.vhdx_pieces.specs.Machines.{bounds_of, Sane}
use Rattle.vhdx_pieces_sanity.specs.Sanity.{standing, bounded, placed, upright, readable, staged, scanning as scans, opened, touring as tours, sane_scan, sane_survey, sane_phase, orderly, entered, wants, writes, sane, DecidesSane}
use Rattle.vhdx_pieces_sanity.proofs.Deciding.{Decides, less, most, equal, itself, always, never, chain, both, some, means}

-- ---- a planner

context : (c : Context) → Decides (bounded c) (Bounded c)
unfolding bounded
context c =
    means (both (less _ _) (both (less _ _) (most _ _)))
    (λ h. record { short = h.1.0; inside = h.1.1; few = h.0 })
    (λ b. (b.few, (b.short, b.inside)))

place : (n : ℕ) (p : Place) → Decides (placed n p) (Placed n p)
place n p = both (equal _ _) (equal _ _)

run : (t : Trace) (p : Place) → Decides (upright t p) (scanning.Upright t p)
unfolding upright
run t p =
    means (both (less _ _) (both (less _ _) (both (place _ p) (both (place _ t.start) (most _ _)))))
    (λ h. record { few = h.0; here = h.1.1.0; there = h.1.1.1.0; behind = h.1.1.1.1; laps = h.1.0 })
    (λ u. (u.few, (u.laps, (u.here, (u.there, u.behind)))))

reading : (n : ℕ) (x : entry.Reading) → Decides (readable n x) (pass.Sane n x)
unfolding readable
reading n x =
    means (both (less _ _) (both (most _ _) (both (most _ _) (both (most _ _) (both (less _ _) (less _ _))))))
    (λ h.
    record {
      sized = record { few = h.0; seen = h.1.0; found = h.1.1.0; fits = h.1.1.1.0; tail = h.1.1.1.1.0 };
      short = h.1.1.1.1.1;
    })
    (λ s. let z = s.sized in (z.few, (z.seen, (z.found, (z.fits, (z.tail, s.short))))))

stage : (n : ℕ) (s : scan.Stage) → Decides (staged n s) (scanning.Staged n s)
unfolding staged
stage n scan_stage.First = always
stage n (scan_stage.Inside x) = reading n x
stage n (scan_stage.Tail e) = means (both (less _ _) (both (most _ _) (less _ _))) (λ h. (h.0, h.1.0, h.1.1)) (λ h. (h.0, (h.1, h.2)))

scanner : (s : Scanner) → Decides (scans s) (scanning.Sane s)
unfolding scans
scanner s =
    means (both (run s.trace s.place) (stage _ s.stage)) (λ h. record { upright = h.0; staged = h.1 }) (λ k. (k.upright, k.staged))

pub tour-standing : (t : Tour) → Decides (standing t.pos t.left) (touring.Standing t)
tour-standing t =
    means (both (less _ _) (both (less _ _) (both (less _ _) (most _ _))))
    (λ h. record { on = h.0; few = h.1.0; some = h.1.1.0; bounded = h.1.1.1 })
    (λ s. (s.on, (s.few, (s.some, s.bounded))))

tour-opened : (t : Tour) → touring.Standing t → Decides (opened t) (touring.Opened t)
unfolding opened
tour-opened t s =
    means (both (less _ _) (both (most _ _) (both (equal _ _) (both (most _ _) (most _ _)))))
    (λ h. record { standing = s; small = h.0; seen = h.1.0; starts = h.1.1.0; front = h.1.1.1.0; size = h.1.1.1.1 })
    (λ o. (o.small, (o.seen, (o.starts, (o.front, o.size)))))

tour : (t : Tour) → Decides (tours t) (touring.Sane t)
unfolding tours
tour t =
    means
    (chain {Q = (t.read < t.pos.len) × (0 < t.read → touring.Opened t × (t.seen < t.count))}
    (tour-standing t) (λ s. both (less _ _) (some t.read (both (tour-opened t s) (less _ _)))))
    (λ h. record { standing = h.0; short = h.1.0; inside = h.1.1 })
    (λ s. (s.standing, (s.short, s.inside)))

planner : (c : Context) (p : Phase) → Decides (sane_phase c p) (SaneIn c p)
unfolding sane_scan sane_survey sane_phase
planner c (phase.Header s) = means (both (less _ _) (most _ _)) (λ h. (h.1, h.0)) (λ h. (h.1, h.0))
planner c (phase.Scan s) =
    means (both (context c) (both (scanner s) (equal _ _))) (λ h. (h.0, h.1.0, h.1.1)) (λ h. (h.0, (h.1, h.2)))
planner c (phase.Survey s) =
    means (both (context c) (both (tour s.tour) (both (equal _ _) (both (less _ _) (less _ _)))))
    (λ h. (h.0, h.1.0, h.1.1.0, h.1.1.1.0, h.1.1.1.1))
    (λ h. (h.0, (h.1, (h.2, (h.3, h.4)))))

-- ---- an order

order : (o : Order) → Decides (orderly o) (OrderFor o.length o)
unfolding orderly
order o =
    means (both (both (most _ _) (most _ _)) (both (less _ _) (both (most _ _) (both (most _ _) (some o.left (less _ _))))))
    (λ h. record { longer = h.0.0; limited = h.0.1; short = h.1.0; inside = h.1.1.0; left = h.1.1.1.0; start = h.1.1.1.1 })
    (λ k. ((k.longer, k.limited), (k.short, (k.inside, (k.left, k.start)))))

-- ---- a walker

walker-standing : (w : Walker) → Decides (standing w.pos w.left) (Standing w)
walker-standing w =
    means (both (less _ _) (both (less _ _) (both (less _ _) (most _ _))))
    (λ h. record { on = h.0; few = h.1.0; some = h.1.1.0; bounded = h.1.1.1 })
    (λ s. (s.on, (s.few, (s.some, s.bounded))))

pub walker-opened : (w : Walker) → Decides (entered w) (Opened w)
unfolding entered
walker-opened w =
    means (both (walker-standing w) (both (less _ _) (both (most _ _) (both (most _ _) (both (most _ _) (most _ _))))))
    (λ h.
    record {
      standing = h.0;
      small = h.1.0;
      index = h.1.1.0;
      rank = h.1.1.1.0;
      front = h.1.1.1.1.0;
      size = h.1.1.1.1.1;
    })
    (λ o. (o.standing, (o.small, (o.index, (o.rank, (o.front, o.size))))))

reader : (b : Bounds) (w : Walker) (s : walk.Stage) → Decides (wants b w s) (ReadingIn b w s)
unfolding wants
reader b w walk_stage.Header = walker-standing w
reader b w walk_stage.Descriptors = both (walker-opened w) (less _ _)
reader b w (walk_stage.Data d) =
    means (both (walker-opened w) (both (less _ _) (itself (allowed b d.offset 4096)))) (λ h. (h.0, h.1.0, h.1.1)) (λ h. (h.0, (h.1, h.2)))
reader b w (walk_stage.Sector d) = never
reader b w (walk_stage.Zeros e) = never

writer : (b : Bounds) (w : Walker) (s : walk.Stage) → Decides (writes b w s) (WritingIn b w s)
unfolding writes
writer b w walk_stage.Header = never
writer b w walk_stage.Descriptors = never
writer b w (walk_stage.Data d) = never
writer b w (walk_stage.Sector d) = both (walker-opened w) (itself (allowed b d.offset 4096))
writer b w (walk_stage.Zeros e) =
    means (both (walker-opened w) (both (less _ _) (itself (allowed b e.offset e.length)))) (λ h. (h.0, h.1.0, h.1.1)) (λ h. (h.0, (h.1, h.2)))

-- ---- a machine

pub decided : (m : Machine) → Decides (sane m) (Sane m)
unfolding sane
decided (Planning p) = planner p.context p.phase
decided (Growing o) = order o
decided (Reading d) =
    means (both (order d.order) (both (reader (bounds_of d.order) d.walker d.walker.stage) (equal _ _))) (λ h. (h.0, h.1.0, h.1.1)) (λ h. (h.0, (h.1, h.2)))
decided (Writing d) =
    means (both (order d.order) (both (writer (bounds_of d.order) d.walker d.walker.stage) (equal _ _))) (λ h. (h.0, h.1.0, h.1.1)) (λ h. (h.0, (h.1, h.2)))

pub decides-sane : DecidesSane
decides-sane m = ((decided m).sound, (decided m).complete)
