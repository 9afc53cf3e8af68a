-- A slot within the whole machine, of the code and of the definitions: its domain by itself.
use Rattle.std.proofs.Common.{◌≡◌, ℕ, List, Option, Some, ap, sym, subst, ◌∙◌}
use Rattle.std.specs.Prelude.{slice_get}
use Rattle.std.proofs.Math.ListN.{set}
use Rattle.std.proofs.lemmas.List.{length-set}
use Rattle.std.proofs.lemmas.Option.{slice_get_within}
use Rattle.tp_base.specs.Table.{at, put, at-put_same, at-put_other}
use Rattle.phys_mem.specs.Contents.{Contents}
use Rattle.repl_policy.specs.declared.AnyPolicy.{AnyPolicy}
use Rattle.repl_policy.specs.Members.{any_rule, any_stands_for}
use Rattle.guards.specs.declared.Guard.{Guard}
use Rattle.mem_system.specs.Contents.{SystemContents}
use Rattle.mem_system.specs.Translation.{KeepsLeaves}
use Rattle.cap_table.specs.Slots.{Slots}
use Rattle.call_table.specs.Domain.{Dom}
use Rattle.call_table.specs.Claims.{is_mine, claims, Facts}
use Rattle.image_check.specs.Image.{Image, own_of}
use Rattle.mail_slots.specs.Boxes.{Boxes}
use Rattle.kernel_call.specs.declared.domain.Domain.{Domain}
use Rattle.kernel_call.specs.Facts.{HasFacts}
use Rattle.world_view.specs.Kernel.{estate, no_dom}
use Rattle.world_view.specs.Machine.{Guards, World, Local, dom_of, part_of, with_part, with_hart, guards_of, setting_by}
use Rattle.world_view.specs.Relations.{IsDomain}
use Rattle.world_view.proofs.opening.Separate.{Separated, separated}
use Rattle.world_view.proofs.opening.OpeningFacts.{kernel_of}
use Rattle.world_view.proofs.actions.TableLaws.{root_is}
use Rattle.world_view.proofs.facts.FactsLaws.{AllBoth}
use Rattle.world_view.proofs.runs.GuardLaws.{are_guards}
use Rattle.domain_step.specs.Kept.{IsSetting}
use Rattle.domain_step.specs.Moves as moves
use Rattle.domain_step.specs.Standing.{DomainStands}
use Rattle.domain_step.proofs.Standing.{stands_in, machine_of, domain_of}
use Rattle.domain_step.specs.InSlot.{StandsIn}
use Rattle.domain_step.proofs.Elements.{each_set}

module _ (off : Option Guard) (i : Image) (d : ℕ) (w : World) (memory : Contents) (mail : Boxes)
    (system : SystemContents AnyPolicy)
    (domains : List Domain) (now : ℕ) (is : StandsIn off i d w memory mail system domains now) where
  abbrev g : Guards
  g = guards_of off i

  abbrev r : Separated i
  r = separated i is.runnable

  -- ---- a domain of it

  sound : (e : ℕ) → IsDomain i e → IsSetting (setting_by g i e)
  sound e ie =
      let are = are_guards i r off in
      record { costs = are.costs; products = are.products; line = are.line; clone = are.layout e ie }

  facts_of : (e : ℕ) (x : Domain) → IsDomain i e → slice_get domains e ≡ Some x
      → HasFacts (estate i.all.hardware (own_of i e)) memory w.storage.mem x
  unfolding estate
  facts_of e x ie got =
      let p = i.all.hardware in
      let o = own_of i e in
      let caps : (dom_of w e).caps ≡ x.caps =
      sym (ap (λ (m : Dom). m.caps) (is.each_domain e x got).dom.same) in
      record {
        estate = (kernel_of i r e ie).has_estate;
        frames = sym is.machine.frames;
        has = (is.each_domain e x got).has;
        holds = is.machine.holds;
        facts =
            subst (λ (slots : Slots). Facts (estate p o).root (is_mine (estate p o))
            (claims (estate p o) slots) w.storage.mem) caps
            (is.each_facts e ie).facts;
      }

  pub all_both : AllBoth i r w
  all_both e ie = record { facts = is.each_facts e ie; rights = is.each_rights e ie }

  -- ---- domain d by itself

  abbrev begun : Local
  begun = part_of 0 d w

  pub in_slot : (x : Domain) → slice_get domains d ≡ Some x
      → moves.StandsIn any_rule any_stands_for (setting_by g i d) memory mail x system now begun
  in_slot x got =
      let p = i.all.hardware in
      let o = own_of i d in
      let has = (is.each_domain d x got).has in
      stands_in (setting_by g i d) memory mail x system now begun (kernel_of i r d is.domain)
      (sound d is.domain) is.machine
      (is.each_domain d x got) (facts_of d x is.domain got)
      (subst (λ (root : ℕ). KeepsLeaves w.storage.mem memory.frames root system.core.tlb)
      (sym (has.root ∙ root_is p o)) is.leaves)

  -- after steps of its own
  pub after_own : (s : Local) (x y : Domain) (memory' : Contents) (mail' : Boxes) (system' : SystemContents AnyPolicy)
      (later : ℕ)
      → slice_get domains d ≡ Some x → AllBoth i r (with_part 0 d w s)
      → moves.StandsIn any_rule any_stands_for (setting_by g i d) memory' mail' y system' later s
      → StandsIn off i d (with_part 0 d w s) memory' mail' system' (set domains d y) later
  unfolding with_part with_hart at put
  after_own s x y memory' mail' system' later got both over =
      let p = i.all.hardware in
      let o = own_of i d in
      let within = slice_get_within domains d x got in
      record {
        runnable = is.runnable;
        domain = is.domain;
        machine = machine_of (setting_by g i d) memory' mail' y system' later s over;
        all_domains = length-set domains d y ∙ is.all_domains;
        each_domain =
            each_set (λ j z. DomainStands (setting_by g i j) z (dom_of w j))
            (λ j z. DomainStands (setting_by g i j) z (dom_of (with_part 0 d w s) j))
            domains d y within
            (subst (DomainStands (setting_by g i d) y) (sym (at-put_same no_dom w.doms d s.dom))
            (domain_of (setting_by g i d) memory' mail' y system' later s over))
            (λ j z apart. subst (DomainStands (setting_by g i j) z)
            (sym (at-put_other no_dom w.doms d j s.dom apart)))
            is.each_domain;
        each_facts = λ e ie. (both e ie).facts;
        each_rights = λ e ie. (both e ie).rights;
        leaves =
            subst (λ (root : ℕ). KeepsLeaves s.storage.mem memory'.frames root system'.core.tlb)
            (over.facts.has.root ∙ root_is p o) over.leaves;
      }
