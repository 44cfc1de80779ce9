-- `bench_api::shrunvaki_bench_sector` meets its contract.
use mathlib.Core.Path.{◌≡◌, subst}
use mathlib.Core.List.{List}
use Prim.Native.Nat.{ℕ}
use lib.ListN.{get_elem?}
use Rattle.vhdx_walk.specs.Walk.{next_of, sectors_left}
use Rattle.vhdx_log.specs.Plan.{plan}
use Rattle.vhdx_log.specs.Answers.{log_of}
use Rattle.bench_api.proofs.Laws.{applied-sectors, no-sector, zero-sector, data-sector}
use Rattle.bench_api.proofs.shrunvaki_bench_sector.Goals as goal

pub returns-in_default-nth : goal.returns-in_default-nth
returns-in_default-nth c =
    let a = c.args in
    let r = c.plan.result in
    let log = log_of a.buffer.now a.length in
    let defined = plan a.buffer.now a.length in
    let there = subst (λ (l : List ℕ). next_of l c.nth.result ≡ get_elem? (sectors_left l c.from-walk.result) a.k) c.log.ensures c.nth.ensures.next in
    let is = applied-sectors log defined r c.plan.ensures.planned a.k c.in-Ok.is c.from-walk.ensures there in
    no-sector is a.answer.now c.in_default-nth.is

pub returns-in-Zeros : goal.returns-in-Zeros
returns-in-Zeros c =
    let a = c.args in
    let r = c.plan.result in
    let log = log_of a.buffer.now a.length in
    let defined = plan a.buffer.now a.length in
    let there = subst (λ (l : List ℕ). next_of l c.nth.result ≡ get_elem? (sectors_left l c.from-walk.result) a.k) c.log.ensures c.nth.ensures.next in
    let is = applied-sectors log defined r c.plan.ensures.planned a.k c.in-Ok.is c.from-walk.ensures there in
    zero-sector is a.answer.now c.in-Some.is c.in-Zeros.is

pub returns-in-Data : goal.returns-in-Data
returns-in-Data c =
    let a = c.args in
    let r = c.plan.result in
    let log = log_of a.buffer.now a.length in
    let defined = plan a.buffer.now a.length in
    let there = subst (λ (l : List ℕ). next_of l c.nth.result ≡ get_elem? (sectors_left l c.from-walk.result) a.k) c.log.ensures c.nth.ensures.next in
    let is = applied-sectors log defined r c.plan.ensures.planned a.k c.in-Ok.is c.from-walk.ensures there in
    data-sector is a.answer.now c.in-Some.is c.in-Data.is
