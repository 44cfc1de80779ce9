-- `vhdx_metadata::contents` meets its contract: each needed item is there with its length.
use native.Mathlib.Omega.{arith}
use Rattle.vhdx_metadata.specs.Known.{known_lengths}
use Rattle.vhdx_metadata.specs.Items.{contents}
use Rattle.vhdx_metadata.proofs.Laws.{table_kept, fixed_length, readable}
use Rattle.vhdx_metadata.proofs.contents.Goals as goal

pub has_parent-has_parent-requires : goal.has_parent-has_parent-requires
has_parent-has_parent-requires c =
    let p = readable c.args.region.now c.requires 0 (omega arith) in
    (p.0, p.1, p.3)

pub bytes-parameters-requires : goal.bytes-parameters-requires
bytes-parameters-requires c =
    readable c.args.region.now c.requires _ (omega arith)

pub u32_at-requires : goal.u32_at-requires
unfolding known_lengths
u32_at-requires c = omega (arith, fixed_length c.bytes-parameters.ensures.len)

pub bytes-requires : goal.bytes-requires
bytes-requires c =
    readable c.args.region.now c.requires _ (omega arith)

pub u64_at-requires : goal.u64_at-requires
unfolding known_lengths
u64_at-requires c = omega (arith, fixed_length c.bytes.ensures.len)

pub bytes-requires-2 : goal.bytes-requires-2
bytes-requires-2 c =
    readable c.args.region.now c.requires _ (omega arith)

pub u32_at-requires-2 : goal.u32_at-requires-2
unfolding known_lengths
u32_at-requires-2 c = omega (arith, fixed_length c.bytes-2.ensures.len)

pub bytes-requires-3 : goal.bytes-requires-3
bytes-requires-3 c =
    readable c.args.region.now c.requires _ (omega arith)

pub u32_at-requires-3 : goal.u32_at-requires-3
unfolding known_lengths
u32_at-requires-3 c = omega (arith, fixed_length c.bytes-3.ensures.len)

pub bytes-requires-4 : goal.bytes-requires-4
bytes-requires-4 c =
    readable c.args.region.now c.requires _ (omega arith)

pub guid_at-requires : goal.guid_at-requires
unfolding known_lengths
guid_at-requires c = omega (arith, fixed_length c.bytes-4.ensures.len)

pub extent-requires : goal.extent-requires
extent-requires c =
    let p = readable c.args.region.now c.requires 0 (omega arith) in
    (p.0, table_kept c.args.region.now p.1, omega arith)

pub returns : goal.returns
unfolding contents
returns c =
    simp (
      c.extent.ensures,
      c.guid_at.ensures,
      c.bytes-4.ensures.bytes,
      c.u32_at-3.ensures,
      c.bytes-3.ensures.bytes,
      c.u32_at-2.ensures,
      c.bytes-2.ensures.bytes,
      c.u64_at.ensures,
      c.bytes.ensures.bytes,
      c.u32_at.ensures,
      c.bytes-parameters.ensures.bytes,
      c.has_parent-has_parent.ensures,
    )
