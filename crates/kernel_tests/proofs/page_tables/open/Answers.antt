-- For the tests: the memory that they begin with.
use Rattle.std.proofs.Common.{rules, ◌≡◌}
use Rattle.phys_mem.specs.Contents.{zeroed}
use Rattle.kernel_tests.proofs.TableLemmas.{ready_new}
use Rattle.kernel_tests.proofs.page_tables.open.Goals as goal

pub returns-clause-ready : goal.returns-clause-ready
returns-clause-ready c =
    let size : c.in_ok-mem.mem.frames ≡ 64 = search rules in
    let root : c.in_ok-root.root ≡ 2 = search rules in
    let zeroed_is : c.root_frame.new.mem ≡ zeroed c.in_ok-mem.mem c.in_ok-root.root = search rules in
    let same : c.new-2.result ≡ c.in_ok-root.root = search rules in
    rw (zeroed_is, same) (ready_new c.in_ok-mem.mem c.in_ok-root.root size root c.in_ok-mem.ensures.holds)
