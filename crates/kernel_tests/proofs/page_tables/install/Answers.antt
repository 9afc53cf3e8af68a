-- For the tests: a table is installed.
use Rattle.std.proofs.Common.{◌≡◌, subst, sym, true, ℕ, ◌+◌}
use Rattle.std.specs.Prelude.{IfOk}
use Rattle.phys_mem.specs.Holds.{Holds}
use Rattle.page_map.specs.Changes.{installed}
use Rattle.page_map.specs.Tables.{StandsWith, has_table}
use Rattle.page_map.specs.Reached.{IsApart}
use Rattle.kernel_tests.proofs.TableLemmas.{Ready, ready_apart, after_install, there_after_install}
use Rattle.kernel_tests.proofs.page_tables.install.Goals as goal

pub install_table-requires-clause-apart : goal.install_table-requires-clause-apart
install_table-requires-clause-apart c =
    subst (λ (f : ℕ). StandsWith c.args.mem.now (λ m. IsApart m c.args.map.now f)) (sym c.new.ensures.value)
    (ready_apart c.args.mem.now c.args.map.now c.args.frame c.requires.size c.requires.root c.requires.few.0
    c.requires.few.1 c.requires.ready)

installed_frame : (c : goal.After-install_table) → IfOk c.install_table.result
    (λ at. Holds c.install_table.new.mem (installed c.requires.ready.mem c.args.map.now c.args.va c.args.frame))
installed_frame c =
    let b = c.requires.ready in
    subst (λ (f : ℕ). IfOk c.install_table.result (λ at. Holds c.install_table.new.mem (installed b.mem c.args.map.now c.args.va f)))
    c.new.ensures.value (c.install_table.ensures.installed b.mem b.holds)

pub returns-clause-ready : goal.returns-clause-ready
returns-clause-ready c =
    subst (λ (r : ℕ). StandsWith c.install_table.new.mem (Ready r c.install_table.new.mem.frames (c.args.frame + 1)))
    (sym c.install_table.ensures.root)
    (after_install c.args.mem.now c.args.map.now c.args.frame c.requires.size c.requires.root c.requires.few.0 c.requires.few.1
    c.requires.ready c.install_table.new.mem c.args.va c.install_table.ensures.frames c.install_table.result
    c.install_table.ensures.unchanged (installed_frame c))

pub returns-clause-there : goal.returns-clause-there
returns-clause-there c =
    subst (λ (r : ℕ). IfOk c.install_table.result (λ at. StandsWith c.install_table.new.mem (λ m. has_table m r c.args.va ≡ true)))
    (sym c.install_table.ensures.root)
    (there_after_install c.args.mem.now c.args.map.now c.args.frame c.requires.size c.requires.root c.requires.few.0 c.requires.few.1
    c.requires.ready c.install_table.new.mem c.args.va c.install_table.ensures.frames c.install_table.result (installed_frame c))
