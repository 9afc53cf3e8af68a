-- For the tests: a page is mapped.
use Rattle.std.proofs.Common.{◌≡◌, subst, sym, true, ℕ}
use Rattle.std.specs.Prelude.{IfOk}
use Rattle.phys_mem.specs.Holds.{Holds}
use Rattle.page_map.specs.Changes.{mapped}
use Rattle.page_map.specs.Tables.{StandsWith, has_page}
use Rattle.page_map.specs.Reached.{IsApart}
use Rattle.kernel_tests.proofs.TableLemmas.{Ready, ready_apart, after_map, there_after_map}
use Rattle.kernel_tests.proofs.page_tables.map_page.Goals as goal

pub map-requires-clause-apart : goal.map-requires-clause-apart
map-requires-clause-apart c =
    subst (λ (f : ℕ). StandsWith c.args.mem.now (λ m. IsApart m c.args.map.now f)) (sym c.new.ensures.value)
    (ready_apart c.args.mem.now c.args.map.now c.args.frame c.requires.size c.requires.root c.requires.few.0
    c.requires.few.1 c.requires.ready)

mapped_frame : (c : goal.After-map) → IfOk c.map.result
    (λ at. Holds c.map.new.mem (mapped c.requires.ready.mem c.args.map.now c.args.va c.args.frame c.args.rights))
mapped_frame c =
    let b = c.requires.ready in
    subst (λ (f : ℕ). IfOk c.map.result (λ at. Holds c.map.new.mem (mapped b.mem c.args.map.now c.args.va f c.args.rights)))
    c.new.ensures.value (c.map.ensures.mapped b.mem b.holds)

pub returns-clause-ready : goal.returns-clause-ready
returns-clause-ready c =
    let b = c.requires.ready in
    subst (λ (r : ℕ). StandsWith c.map.new.mem (Ready r c.map.new.mem.frames c.args.frame)) (sym c.map.ensures.root)
    (after_map c.args.mem.now c.args.map.now c.args.frame c.requires.size c.requires.root c.requires.few.0 c.requires.few.1
    b c.map.new.mem c.args.va c.map.ensures.frames c.args.rights c.map.result c.map.ensures.unchanged
    (c.map.ensures.allowed b.mem b.holds) (mapped_frame c))

pub returns-clause-there : goal.returns-clause-there
returns-clause-there c =
    let b = c.requires.ready in
    subst (λ (r : ℕ). IfOk c.map.result (λ at. StandsWith c.map.new.mem (λ m. has_page m r c.args.va ≡ true))) (sym c.map.ensures.root)
    (there_after_map c.args.mem.now c.args.map.now c.args.frame c.requires.size c.requires.root c.requires.few.0 c.requires.few.1
    b c.map.new.mem c.args.va c.map.ensures.frames c.args.rights c.requires.rights c.map.result
    (c.map.ensures.allowed b.mem b.holds) (mapped_frame c))
