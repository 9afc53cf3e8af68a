use Rattle.image_check.specs.Image.{own_of}
use Rattle.world_view.specs.Machine.{dom_of}
use Rattle.world_view.specs.Harts.{harts}
use Rattle.world_view.specs.Kernel.{estate}
use Rattle.call_table.proofs.TablesMeaning.{page_tables}
use Rattle.call_table.proofs.RightsKept.{walks_within}
use Rattle.world_view.proofs.actions.TableLaws.{IsPage, walkable, no_access_fault}
use Rattle.world_view.proofs.harts.Isolation.{running}
use Rattle.world_view.proofs.laws.reach.Goals as goal

pub returns-clause-facts : goal.returns-clause-facts
returns-clause-facts c = λ i d order r is below. ((running i r order below).facts d is).facts

pub returns-clause-own : goal.returns-clause-own
returns-clause-own c = λ i d order r is below.
    let w = (harts i order).world in
    page_tables (estate i.all.hardware (own_of i d)) (dom_of w d) w.storage.mem ((running i r order below).facts d is).facts

pub returns-clause-no_access_fault : goal.returns-clause-no_access_fault
unfolding estate
returns-clause-no_access_fault c = λ i d order r is below va a.
    let p = i.all.hardware in
    let o = own_of i d in
    let w = (harts i order).world in
    let m = w.storage.mem in
    no_access_fault p o (estate p o).root (IsPage p o (dom_of w d) m) m
    (walkable p o (dom_of w d) m ((running i r order below).facts d is).facts) va a (λ f page. page.own)

pub returns-clause-rights : goal.returns-clause-rights
returns-clause-rights c = λ i d order r is below. ((running i r order below).facts d is).rights

pub returns-clause-permitted : goal.returns-clause-permitted
returns-clause-permitted c = λ i d order r is below va leaf a.
    let w = (harts i order).world in
    let h = (running i r order below).facts d is in
    walks_within (estate i.all.hardware (own_of i d)) (dom_of w d) w.storage.mem va leaf a h.facts h.rights
