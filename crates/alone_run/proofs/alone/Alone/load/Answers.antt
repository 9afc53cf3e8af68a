use Rattle.std.proofs.Common.{◌∙◌, ap, subst, arith}
use Rattle.mail_slots.specs.Boxes.{opening}
use Rattle.tp_base.specs.Table.{empty}
use Rattle.phys_mem.specs.Contents.{Contents}
use Rattle.repl_policy.specs.Members.{any_stands_for}
use Rattle.mem_system.specs.Hierarchy.{Hierarchy}
use Rattle.mem_system.specs.Cost.{cold}
use Rattle.mem_system.specs.Contents.{system, SystemStands}
use Rattle.image_check.specs.Models.{public_model, own_model}
use Rattle.alone_run.specs.Runs.{public_for, alone_after}
use Rattle.alone_run.specs.Standing.{kept}
use Rattle.alone_run.proofs.Given.{runs_of}
use Rattle.alone_run.proofs.Slots.{Stand, stands_of, facts_of, opened}
use Rattle.alone_run.proofs.alone.Alone.load.Goals as goal

pub geometry_of-geometry-requires : goal.geometry_of-geometry-requires
geometry_of-geometry-requires c = record {
  hardware =
      (runs_of (public_model c.args.public.now) (own_model c.args.own.now) c.args.d c.requires.image).hardware;
}

pub share_of-requires : goal.share_of-requires
share_of-requires c =
    let runs = runs_of (public_model c.args.public.now) (own_model c.args.own.now) c.args.d c.requires.image in
    record { hardware = runs.hardware; colours = runs.colours }

pub open_domain-requires-clause-has_pool : goal.open_domain-requires-clause-has_pool
open_domain-requires-clause-has_pool c =
    (runs_of (public_model c.args.public.now) (own_model c.args.own.now) c.args.d c.requires.image).pool

pub open_domain-requires-clause-apart : goal.open_domain-requires-clause-apart
open_domain-requires-clause-apart c = record { once = (runs_of (public_model c.args.public.now) (own_model c.args.own.now) c.args.d c.requires.image).pool.sound.apart }

pub load_domain-requires-clause-has_pool : goal.load_domain-requires-clause-has_pool
load_domain-requires-clause-has_pool c =
    (runs_of (public_model c.args.public.now) (own_model c.args.own.now) c.args.d c.requires.image).pool

stood : (c : goal.In_ok-core) → Stand (public_model c.args.public.now).hardware (own_model c.args.own.now)
    (kept c.load_domain.new.memory c.in_ok-mail.mail (system c.in_ok-core.core c.in_ok-core.l2) c.in_ok-domain.domain 0)
    (alone_after (public_model c.args.public.now) (own_model c.args.own.now) c.args.d 0)
stood c =
    let levels = c.geometry_of-geometry.ensures.hierarchy in
    opened (public_for (public_model c.args.public.now) c.args.d) (own_model c.args.own.now)
    (runs_of (public_model c.args.public.now) (own_model c.args.own.now) c.args.d c.requires.image)
    c.args.d c.load_domain.new.memory c.in_ok-mail.mail (system c.in_ok-core.core c.in_ok-core.l2) c.in_ok-domain.domain
    (c.in_ok-mail.ensures.opening ∙ ap opening c.as_slice.ensures.value)
    (c.load_domain.ensures.size ∙ c.in_ok-domain.ensures.size ∙ ap (λ (x : Contents). x.frames) c.in_ok-memory.ensures.zero)
    (c.load_domain.ensures.placed empty (c.in_ok-domain.ensures.blank c.in_ok-memory.ensures.holds))
    (c.in_ok-core.ensures.hierarchy ∙ levels) c.in_ok-core.ensures.pinned
    (subst (λ (h : Hierarchy).
    SystemStands any_stands_for (system c.in_ok-core.core c.in_ok-core.l2) (cold h)) levels
    c.in_ok-core.ensures.cold)
    c.in_ok-core.ensures.kept c.in_ok-domain.ensures.opened

pub invariant_of-result-clause-runs : goal.invariant_of-result-clause-runs
invariant_of-result-clause-runs c = runs_of (public_model c.args.public.now) (own_model c.args.own.now) c.args.d c.requires.image

pub invariant_of-result-clause-stands : goal.invariant_of-result-clause-stands
invariant_of-result-clause-stands c =
    stands_of (public_model c.args.public.now).hardware (own_model c.args.own.now)
    (kept c.load_domain.new.memory c.in_ok-mail.mail (system c.in_ok-core.core c.in_ok-core.l2) c.in_ok-domain.domain 0) _
    (stood c)

pub invariant_of-result-clause-facts : goal.invariant_of-result-clause-facts
invariant_of-result-clause-facts c =
    ∣ facts_of (public_model c.args.public.now).hardware (own_model c.args.own.now)
    (kept c.load_domain.new.memory c.in_ok-mail.mail (system c.in_ok-core.core c.in_ok-core.l2) c.in_ok-domain.domain 0) _
    (stood c) ∣₁

pub invariant_of-result-clause-in_bounds : goal.invariant_of-result-clause-in_bounds
invariant_of-result-clause-in_bounds c = record { slots_left = omega arith; few_calls = c.in_ok-domain.ensures.opened.few }
