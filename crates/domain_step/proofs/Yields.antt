-- What steps leave, backwards from what is wanted of it: a rule for each primitive.
use Rattle.std.proofs.Common.{◌≡◌, ℕ, Option, ◌⊎◌, inl, inr, Some, None, Ok, Err, refl, sym, subst}
use Rattle.tp_base.specs.Act.{◌>>=◌, ◌>>◌, go_on, give, stop, note}
use Rattle.phys_mem.specs.Mem.{word, written}
use Rattle.rv_core.specs.declared.Trap.{Trap}
use Rattle.call_table.specs.Domain.{Dom}
use Rattle.kernel_call.specs.declared.domain.Domain.{Domain}
use Rattle.kernel_call.specs.Models.{dom_model, Stands, Becomes}
use Rattle.mem_system.specs.Cost.{Touch, Touched}
use Rattle.world_view.specs.Instruction.{trapped}
use Rattle.world_view.specs.Event.{Storage, Act, touch, read, write, unless}
use Rattle.world_view.specs.Machine.{Setting}
use Rattle.domain_step.specs.Kept.{charged, after}
use Rattle.domain_step.specs.Moves.{Yields, Answered}
use Rattle.domain_step.proofs.Charges.{after-append}

-- the rest after a value, or nothing after an early end
abbrev pub Then : {A B : Type 0} → Setting → (A → Act B) → (Dom ⊎ B → Storage → Touched → Type 0) → Dom ⊎ A → Storage → Touched → Type 0
Then w y Q (inl d) t q = Q (inl d) t q
Then w y Q (inr a) t q = Yields w (y a) t q Q

module _ {A B : Type 0} (w : Setting) (x : Act A) (y : A → Act B) (s : Storage) (r : Touched)
    (Q : Dom ⊎ B → Storage → Touched → Type 0) where
  by_end : (v : Dom ⊎ A) → (x s).value ≡ v → Then w y Q v (x s).state (after w r (x s).notes)
      → Yields w (x >>= y) s r Q
  unfolding ◌>>=◌ go_on
  by_end (inl d) e met = record { met = rw e met }
  by_end (inr a) e rest =
      let q = y a (x s).state in
      record { met = rw e (subst (Q q.value q.state) (sym (after-append w r (x s).notes q.notes)) rest.met) }

  pub y_bind : Yields w x s r (Then w y Q) → Yields w (x >>= y) s r Q
  y_bind h = by_end (x s).value refl h.met

pub y_next : {A B : Type 0} (w : Setting) (x : Act A) (y : Act B) (s : Storage) (r : Touched)
    (Q : Dom ⊎ B → Storage → Touched → Type 0)
    → Yields w x s r (Then w (λ _. y) Q) → Yields w (x >> y) s r Q
unfolding ◌>>◌
y_next w x y s r Q h = y_bind w x (λ _. y) s r Q h

module _ (w : Setting) (s : Storage) (r : Touched) where
  pub y_touch : (t : Touch) (Q : Dom ⊎ Unit {0} → Storage → Touched → Type 0) → Q (inr tt) s (charged w r t)
      → Yields w (touch t) s r Q
  unfolding touch note after
  y_touch t Q h = record { met = h }

  pub y_read : (f i : ℕ) (Q : Dom ⊎ ℕ → Storage → Touched → Type 0) → Q (inr (word s.mem f i)) s r
      → Yields w (read f i) s r Q
  unfolding read after
  y_read f i Q h = record { met = h }

  pub y_write : (f i v : ℕ) (Q : Dom ⊎ Unit {0} → Storage → Touched → Type 0)
      → Q (inr tt) (record s { mem = written s.mem f i v }) r → Yields w (write f i v) s r Q
  unfolding write after
  y_write f i v Q h = record { met = h }

  pub y_passes : (t : Option Trap) (d : Dom) (Q : Dom ⊎ Unit {0} → Storage → Touched → Type 0) → t ≡ None
      → Q (inr tt) s r → Yields w (unless t d) s r Q
  unfolding unless give after
  y_passes t d Q e h = rw e (record { met = h })

  pub y_raises : (t : Option Trap) (trap : Trap) (d : Dom) (Q : Dom ⊎ Unit {0} → Storage → Touched → Type 0)
      → t ≡ Some trap → Q (inl (trapped trap d)) s r → Yields w (unless t d) s r Q
  unfolding unless stop after
  y_raises t trap d Q e h = rw e (record { met = h })

  pub y_stop : {A : Type 0} (d : Dom) (Q : Dom ⊎ A → Storage → Touched → Type 0) → Q (inl d) s r
      → Yields w (stop d) s r Q
  unfolding stop after
  y_stop d Q h = record { met = h }

  pub y_give : {A : Type 0} (a : A) (Q : Dom ⊎ A → Storage → Touched → Type 0) → Q (inr a) s r
      → Yields w (give a) s r Q
  unfolding give after
  y_give a Q h = record { met = h }

-- by what the code answers: a value, or a trap
module _ {A : Type 0} (w : Setting) (d : Dom) (K : Storage → Touched → Type 0) (x : Act A) (s : Storage)
    (r : Touched) (Q : Dom ⊎ A → Storage → Touched → Type 0) where
  pub y_found : (a : A) → Yields w x s r (Answered d (Ok a) K)
      → ((t : Storage) (q : Touched) → K t q → Q (inr a) t q) → Yields w x s r Q
  y_found a found rest = record {
    met =
        subst (λ (v : Dom ⊎ A). Q v (x s).state (after w r (x s).notes)) (sym found.met.value)
        (rest (x s).state (after w r (x s).notes) found.met.kept);
  }

  pub y_faults : (trap : Trap) → Yields w x s r (Answered {A = A} d (Err trap) K)
      → ((t : Storage) (q : Touched) → K t q → Q (inl (trapped trap d)) t q) → Yields w x s r Q
  y_faults trap found rest = record {
    met =
        subst (λ (v : Dom ⊎ A). Q v (x s).state (after w r (x s).notes)) (sym found.met.value)
        (rest (x s).state (after w r (x s).notes) found.met.kept);
  }

pub ruleset yields_rules = (y_bind, y_next, y_touch, y_read, y_give, y_stop, y_write, y_passes, y_raises)

-- ---- changes of a domain, one after another

pub becomes_then : (f g : Dom → Dom) (old mid new : Domain) → Becomes f old mid → Becomes g mid new
    → Becomes (λ d. g (f d)) old new
becomes_then f g old mid new first second readings replies r q =
    let s = first readings replies r q in
    let m = f (dom_model old readings replies) in
    subst (λ (d : Dom). Stands new (g d)) s.same (second m.readings m.replies s.readings s.replies)
