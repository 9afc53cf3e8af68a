-- The leaves that are cleared, one after another.
use Rattle.std.proofs.Common.{arith, rules, ◌≡◌, ◌∙◌, refl, true, ap, sym, subst, ℕ, ◌<◌, ◌≤◌, List, length, take, get_or}
use Rattle.std.specs.Prelude.{slice_index}
use Rattle.std.proofs.lemmas.List.{get_or-take, length-take-le, length-set}
use Rattle.phys_mem.specs.Mem.{Mem}
use Rattle.phys_mem.specs.Holds.{Holds}
use Rattle.page_map.specs.Tables.{StandsWith, IsPageMap, has_page}
use Rattle.page_map.specs.Changes.{page_entry, unmapped}
use Rattle.kernel_clone.specs.Footprints.{WorkDone}
use Rattle.kernel_call.proofs.DropsAll.{next_tables, can_go_on, clearing_starts, clearing_goes_on, clearing_ends}
use Rattle.kernel_call.proofs.frames.clear_all.Goals as goal

pub loop-i-preserved : goal.loop-i-preserved
loop-i-preserved c =
    let vas : List ℕ = take c.args.revoked.now.written c.args.revoked.now.entries in
    let va : ℕ = slice_index c.args.revoked.now.entries c.loop-i.i in
    let long : length c.args.revoked.now.entries ≡ 64 = search rules in
    let many : length c.loop-i.work.entries ≡ 64 = c.loop-i.invariant.5 in
    let below : c.loop-i.i < length vas =
    omega (
      arith,
      length-take-le c.args.revoked.now.written c.args.revoked.now.entries
          (omega (arith, long, c.requires.few)),
      c.loop-i-test.true,
    ) in
    let is : va ≡ get_or vas c.loop-i.i 0 =
    sym (get_or-take c.args.revoked.now.written c.args.revoked.now.entries c.loop-i.i 0
    c.loop-i-test.true) in
    let root : c.loop-i.map ≡ c.args.map.now = c.loop-i.invariant.1 in
    let place : (m : Mem) → Holds c.loop-i.memory m → c.unmap.result ≡ page_entry m c.args.map.now va =
    λ m h. c.unmap.ensures.entry m h ∙ ap (λ (r : ℕ). page_entry m r va) root in
    let clears : (m : Mem) → Holds c.loop-i.memory m → Holds c.unmap.new.mem (unmapped m c.args.map.now va) =
    λ m h. subst (λ (r : ℕ). Holds c.unmap.new.mem (unmapped m r va)) root (c.unmap.ensures.unmapped m h) in (
      omega (arith, c.loop-i-test.true),
      c.unmap.ensures.root ∙ root,
      c.unmap.ensures.frames ∙ c.loop-i.invariant.2,
      c.loop-i.invariant.3,
      c.loop-i.invariant.4,
      length-set c.loop-i.work.entries c.loop-i.i c.unmap.result ∙ many,
      can_go_on c.args.map.now vas c.loop-i.i below c.loop-i.memory c.unmap.new.mem va is
          c.unmap.ensures.frames clears c.loop-i.invariant.6,
      λ m h. clearing_goes_on c.args.map.now vas c.loop-i.i below m c.loop-i.memory c.unmap.new.mem
          c.loop-i.work.entries va c.unmap.result is
          (omega (arith, many, c.loop-i-test.true, c.requires.few)) place clears (c.loop-i.invariant.7 m h),
    )

pub returns-clause-unmaps : goal.returns-clause-unmaps
returns-clause-unmaps c = λ m h.
    let vas : List ℕ = take c.args.revoked.now.written c.args.revoked.now.entries in
    let long : length c.args.revoked.now.entries ≡ 64 = search rules in
    let end : c.args.revoked.now.written ≡ c.loop-i.i = omega (arith, c.loop-i-test.false, c.loop-i.invariant.0) in
    let past : length vas ≤ c.loop-i.i =
    omega (arith, length-take-le c.args.revoked.now.written c.args.revoked.now.entries (omega (arith, long, c.requires.few)), end) in
    clearing_ends c.args.map.now vas c.loop-i.i m c.loop-i.memory c.loop-i.work.entries
    (record c.loop-i.work { count = c.args.revoked.now.written }) past (search rules) (c.loop-i.invariant.7 m h)

pub loop-i-init : goal.loop-i-init
loop-i-init c =
    let entries : List ℕ = c.args.revoked.now.entries in
    let vas : List ℕ = take c.args.revoked.now.written entries in (
      omega arith,
      refl,
      refl,
      ap (λ (w : WorkDone). w.op) c.no_work-work.ensures.work,
      ap (λ (w : WorkDone). w.zeroed) c.no_work-work.ensures.work,
      search rules,
      c.requires.there,
      λ m h. clearing_starts c.args.map.now vas m c.args.memory.now c.no_work-work.result.entries h,
    )

pub unmap-requires : goal.unmap-requires
unmap-requires c =
    let vas : List ℕ = take c.args.revoked.now.written c.args.revoked.now.entries in
    let va : ℕ = slice_index c.args.revoked.now.entries c.loop-i.i in
    let long : length c.args.revoked.now.entries ≡ 64 = search rules in
    let below : c.loop-i.i < length vas =
    omega (
      arith,
      length-take-le c.args.revoked.now.written c.args.revoked.now.entries
          (omega (arith, long, c.requires.few)),
      c.loop-i-test.true,
    ) in
    let is : va ≡ get_or vas c.loop-i.i 0 =
    sym (get_or-take c.args.revoked.now.written c.args.revoked.now.entries c.loop-i.i 0
    c.loop-i-test.true) in
    let at = next_tables c.args.map.now vas c.loop-i.i below c.loop-i.memory va is c.loop-i.invariant.6 in
    record {
      tables = subst (λ (root : ℕ). StandsWith c.loop-i.memory (λ m. IsPageMap m root c.loop-i.memory.frames)) (sym c.loop-i.invariant.1)
          (record { mem = at.mem; holds = at.holds; so = at.so.tables });
      page = subst (λ (root : ℕ). StandsWith c.loop-i.memory (λ m. has_page m root va ≡ true)) (sym c.loop-i.invariant.1)
          (record { mem = at.mem; holds = at.holds; so = at.so.page });
    }

pub returns-clause-map : goal.returns-clause-map
returns-clause-map c = c.loop-i.invariant.1

pub returns-clause-frames : goal.returns-clause-frames
returns-clause-frames c = c.loop-i.invariant.2
