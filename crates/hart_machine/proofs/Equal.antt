-- To be equal for a domain, or for a hart and its domains, is an equality.
use Rattle.std.proofs.Common.{◌≡◌, ℕ, ap, ap₂, sym, ◌∙◌, refl}
use Rattle.event_orders.specs.Machine.{IsEquality}
use Rattle.mem_system.specs.Cost.{Core}
use Rattle.hardware_check.specs.Hardware.{Hardware}
use Rattle.image_check.specs.Own.{Own}
use Rattle.image_check.specs.Image.{Image, own_of}
use Rattle.world_view.specs.Machine.{Hart, Local, World, part_of}
use Rattle.world_view.specs.Relations.{IsDomain, Within, Apiece}
use Rattle.world_view.specs.Harts.{Harts, hart_of_domain}
use Rattle.world_view.proofs.harts.Meets.{apiece_trans}
use Rattle.hart_machine.specs.HartMachine.{SameParts, SameHart, SameNobodys, SameShared}

-- ---- for a domain

module _ (p : Hardware) (o : Own) where
  pub within_itself : (x : Local) → Within p o x x
  within_itself x = record { dom = refl; part = record { frames = λ f own. refl; side = refl; sets = λ s own. refl }; core = refl; clock = refl }

  pub within_back : (x y : Local) → Within p o x y → Within p o y x
  within_back x y h = record {
    dom = sym h.dom;
    part = record {
      frames = λ f own. sym (h.part.frames f own);
      side = sym h.part.side;
      sets = λ s own. sym (h.part.sets s own);
    };
    core = sym h.core;
    clock = sym h.clock;
  }

  pub apiece_itself : (x : Local) → Apiece p o x x
  apiece_itself x = record { dom = refl; part = record { frames = λ f own. refl; side = refl; sets = λ s own. refl } }

  pub apiece_back : (x y : Local) → Apiece p o x y → Apiece p o y x
  apiece_back x y h = record {
    dom = sym h.dom;
    part = record {
      frames = λ f own. sym (h.part.frames f own);
      side = sym h.part.side;
      sets = λ s own. sym (h.part.sets s own);
    };
  }

  pub apiece_of : (x y : Local) → Within p o x y → Apiece p o x y
  apiece_of x y h = record { dom = h.dom; part = h.part }

-- ---- for a hart

pub same_hart_by : (x y : Hart) → x.core ≡ y.core → x.clock ≡ y.clock → x.ended ≡ y.ended → x ≡ y
same_hart_by x y core clock ended =
    ap₂ (λ (c : Core) (t : ℕ). record { core = c; clock = t; ended = x.ended }) core clock
    ∙ ap (λ (e : ℕ). record { core = y.core; clock = y.clock; ended = e }) ended

module _ (i : Image) (h : ℕ) where
  pub parts_itself : (w : World) → SameParts i h w w
  parts_itself w =
      record { hart = refl; domains = λ d id home. apiece_itself i.all.hardware (own_of i d) (part_of h d w) }

  pub parts_back : (w v : World) → SameParts i h w v → SameParts i h v w
  parts_back w v e = record {
    hart = sym e.hart;
    domains = λ d id home. apiece_back i.all.hardware (own_of i d) (part_of h d w) (part_of h d v) (e.domains d id home);
  }

  pub parts_on : (w v u : World) → SameParts i h w v → SameParts i h v u → SameParts i h w u
  parts_on w v u e f = record {
    hart = e.hart ∙ f.hart;
    domains = λ d id home.
        apiece_trans i.all.hardware (own_of i d) (part_of h d w) (part_of h d v) (part_of h d u) (e.domains d id home)
        (f.domains d id home);
  }

  -- while it is on its hart a domain has the core and the clock, too
  pub near : (w v : World) → SameParts i h w v → (d : ℕ) → IsDomain i d → hart_of_domain i d ≡ h
      → Within i.all.hardware (own_of i d) (part_of h d w) (part_of h d v)
  near w v e d id home =
      let a = e.domains d id home in
      record { dom = a.dom; part = a.part; core = ap (λ (x : Hart). x.core) e.hart; clock = ap (λ (x : Hart). x.clock) e.hart }

  pub same_hart : IsEquality Harts (SameHart i h)
  same_hart = record {
    itself = λ s. record { parts = parts_itself s.world; progress = refl };
    back = λ s t e. record { parts = parts_back s.world t.world e.parts; progress = sym e.progress };
    on = λ s t u e f.
        record { parts = parts_on s.world t.world u.world e.parts f.parts; progress = e.progress ∙ f.progress };
  }

pub nobodys_back : (i : Image) (w v : World) → SameNobodys i w v → SameNobodys i v w
nobodys_back i w v e = record {
  frames = λ f none. sym (e.frames f none);
  sets = λ x none. sym (e.sets x none);
  kernels = λ x kernel. sym (e.kernels x kernel);
}

pub nobodys_on : (i : Image) (w v u : World) → SameNobodys i w v → SameNobodys i v u → SameNobodys i w u
nobodys_on i w v u e f = record {
  frames = λ x none. e.frames x none ∙ f.frames x none;
  sets = λ x none. e.sets x none ∙ f.sets x none;
  kernels = λ x kernel. e.kernels x kernel ∙ f.kernels x kernel;
}

nobodys_itself : (i : Image) (w : World) → SameNobodys i w w
nobodys_itself i w = record { frames = λ f none. refl; sets = λ x none. refl; kernels = λ x kernel. refl }

pub same_shared : (i : Image) → IsEquality Harts (SameShared i)
same_shared i = record {
  itself = λ s. record { used = refl; came = refl; waiting = refl; nobodys = nobodys_itself i s.world };
  back = λ s t e. record {
    used = sym e.used;
    came = sym e.came;
    waiting = sym e.waiting;
    nobodys = nobodys_back i s.world t.world e.nobodys;
  };
  on = λ s t u e f. record {
    used = e.used ∙ f.used;
    came = e.came ∙ f.came;
    waiting = e.waiting ∙ f.waiting;
    nobodys = nobodys_on i s.world t.world u.world e.nobodys f.nobodys;
  };
}
