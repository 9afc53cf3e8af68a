-- Steps over two memories that are equal in the domain's own frames: they do the same, and within those frames alone.
use Rattle.std.proofs.Common.{◌≡◌, ◌≢◌, ◌⊎◌, ◌∙◌, ap, ap₂, sym, subst, subst₂, refl, inl, inr, ℕ, ◌<◌, ◌/◌, Bool, true, false, cond, eqb, true≢false, List, [], ◌∷◌, ◌++◌, arith, Option, Some, None}
use Rattle.std.specs.Prelude.{nat_lt}
use Rattle.std.specs.List.{All}
use Rattle.std.proofs.lemmas.List.Elements.{All-nil, All-cons, All-append}
use Rattle.tp_base.specs.Table.{empty, at, put, at-put}
use Rattle.tp_base.specs.Act.{Done, go_on, ◌>>=◌, ◌>>◌, give, stop, check}
use Rattle.phys_mem.specs.Mem.{Mem, Frame, frame_at, word, written, zeroed_frame, frame_at-written_other, frame_at-zeroed_other}
use Rattle.sv32_walk.specs.Walk.{entry_address}
use Rattle.cap_table.specs.declared.Cap.{Cap}
use Rattle.cap_table.specs.Slots.{cap_at}
use Rattle.page_map.specs.declared.refusal.MapRefusal.{MapRefusal}
use Rattle.call_table.specs.Domain.{Dom, refused}
use Rattle.call_table.specs.Claims.{Estate, is_mine}
use Rattle.call_table.specs.Calls.{Note, Act, empty_buffer, some_or, is_slot, filled, allowed}
use Rattle.call_table.specs.Laws.{IsMine, SameMine, IsOwnWork}
use Rattle.call_table.proofs.QuietCalls.{Quiet}

-- what is known of the value and of what is left, if there is a value
abbrev pub Known : {A : Type 0} → (A → Mem → Type 0) → Dom ⊎ A → Mem → Type 0
Known P (inl d) m = Unit {0}
Known P (inr a) m = P a m

-- nothing
abbrev pub Any : {A : Type 0} → A → Mem → Type 0
Any a m = Unit {0}

pub same_word : (m k : Mem) (f i : ℕ) → frame_at m f ≡ frame_at k f → word m f i ≡ word k f i
unfolding word
same_word m k f i e = ap (λ (x : Frame). at 0 x i) e

written_same : (m k : Mem) (f i v g : ℕ) → frame_at m f ≡ frame_at k f → frame_at m g ≡ frame_at k g
    → frame_at (written m f i v) g ≡ frame_at (written k f i v) g
unfolding frame_at written
written_same m k f i v g e h =
    rw (at-put empty m f g (put (at empty m f) i v), at-put empty k f g (put (at empty k f) i v))
    (ap₂ (λ (x y : Frame). cond (eqb g f) (put x i v) y) e h)

zeroed_same : (m k : Mem) (f g : ℕ) → frame_at m g ≡ frame_at k g
    → frame_at (zeroed_frame m f) g ≡ frame_at (zeroed_frame k f) g
unfolding frame_at zeroed_frame
zeroed_same m k f g h =
    rw (at-put empty m f g empty, at-put empty k f g empty) (ap (λ (y : Frame). cond (eqb g f) empty y) h)

pub entry_frame : (table index : ℕ) → index < 1024 → entry_address table index / 4096 ≡ table
unfolding entry_address
entry_frame table index below = omega (arith, below)

module _ (e : Estate) (first : Mem) where
  -- equal in the domain's own frames, and outside as at first
  pub record Beside (m k : Mem) : Type 0 where
    pub same : SameMine e m k
    pub outside : (f : ℕ) → is_mine e f ≡ false → frame_at m f ≡ frame_at first f

  -- the same value and work, all of it in the domain's own frames, memories that are beside, and a value that meets P
  pub record Alike {A : Type 0} (P : A → Mem → Type 0) (r q : Done Mem Note Dom A) : Type 0 where
    pub value : r.value ≡ q.value
    pub notes : r.notes ≡ q.notes
    pub beside : Beside r.state q.state
    pub work : All (IsOwnWork e) r.notes
    pub known : Known P r.value r.state

  not_mine : (f g : ℕ) → IsMine e f → is_mine e g ≡ false → g ≢ f
  not_mine f g own out same = true≢false (sym own ∙ ap (is_mine e) (sym same) ∙ out)

  pub beside_written : (m k : Mem) (f i v : ℕ) → IsMine e f → Beside m k
      → Beside (written m f i v) (written k f i v)
  beside_written m k f i v own b = record {
    same = λ g h. written_same m k f i v g (b.same f own) (b.same g h);
    outside = λ g out. frame_at-written_other m f i v g (not_mine f g own out) ∙ b.outside g out;
  }

  pub beside_zeroed : (m k : Mem) (f : ℕ) → IsMine e f → Beside m k
      → Beside (zeroed_frame m f) (zeroed_frame k f)
  beside_zeroed m k f own b = record {
    same = λ g h. zeroed_same m k f g (b.same g h);
    outside = λ g out. frame_at-zeroed_other m f g (not_mine f g own out) ∙ b.outside g out;
  }

  -- ---- one action after another

  after : {A B : Type 0} (P : A → Mem → Type 0) (Q : B → Mem → Type 0) (r q : Done Mem Note Dom A)
      (f : A → Act B) (v : Dom ⊎ A)
      → Alike P r q → Known P v r.state
      → ((a : A) (m k : Mem) → P a m → Beside m k → Alike Q (f a m) (f a k)) → Alike Q (go_on r f v) (go_on q f v)
  unfolding go_on
  after P Q r q f (inl d) h p g = record { value = refl; notes = h.notes; beside = h.beside; work = h.work; known = tt }
  after P Q r q f (inr a) h p g =
      let n = g a r.state q.state p h.beside in
      record {
        value = n.value;
        notes = ap₂ (λ x y. x ++ y) h.notes n.notes;
        beside = n.beside;
        work = All-append (IsOwnWork e) r.notes (f a r.state).notes h.work n.work;
        known = n.known;
      }

  pub bind_alike : {A B : Type 0} (P : A → Mem → Type 0) (Q : B → Mem → Type 0) (x : Act A) (f : A → Act B)
      (m k : Mem)
      → Alike P (x m) (x k) → ((a : A) (n l : Mem) → P a n → Beside n l → Alike Q (f a n) (f a l)) → Alike Q ((x >>= f) m) ((x >>= f) k)
  unfolding ◌>>=◌
  bind_alike {A} {B} P Q x f m k h g =
      subst (λ (v : Dom ⊎ A). Alike Q (go_on (x m) f (x m).value) (go_on (x k) f v)) h.value
      (after P Q (x m) (x k) f (x m).value h h.known g)

  any_known : (v : Dom ⊎ Dom) (m : Mem) → Known Any v m
  any_known (inl x) m = tt
  any_known (inr x) m = tt

  pub quiet_alike : (d : Dom) (y : Act Dom) (m k : Mem) → Beside m k → Quiet d y → Alike Any (y m) (y k)
  quiet_alike d y m k b q = record {
    value = q.is m ∙ sym (q.is k);
    notes = q.no_work m ∙ sym (q.no_work k);
    beside = subst₂ (λ (n l : Mem). Beside n l) (sym (q.memory m)) (sym (q.memory k)) b;
    work = subst (λ (ns : List Note). All (IsOwnWork e) ns) (sym (q.no_work m)) (All-nil (IsOwnWork e));
    known = any_known (y m).value (y m).state;
  }

  -- ---- steps that leave memory as it is, and what follows them

  module _ {A : Type 0} (P : A → Mem → Type 0) (m k : Mem) (b : Beside m k) where
    pub give_alike : (a : A) → P a m → Alike P (give a m) (give a k)
    unfolding give
    give_alike a p = record { value = refl; notes = refl; beside = b; work = All-nil (IsOwnWork e); known = p }

    pub stop_alike : (d : Dom) → Alike P (stop d m) (stop d k)
    unfolding stop
    stop_alike d = record { value = refl; notes = refl; beside = b; work = All-nil (IsOwnWork e); known = tt }

    pub check_alike : (d : Dom) (t : Bool) (y : Act A) → (t ≡ true → Alike P (y m) (y k))
        → Alike P ((check d t >> y) m) ((check d t >> y) k)
    unfolding check ◌>>◌ ◌>>=◌ go_on give stop
    check_alike d true y g =
        let h = g refl in
        record { value = h.value; notes = h.notes; beside = h.beside; work = h.work; known = h.known }
    check_alike d false y g = record { value = refl; notes = refl; beside = b; work = All-nil (IsOwnWork e); known = tt }

    pub some_alike : {B : Type 0} (d : Dom) (x : Option B) (f : B → Act A)
        → ((a : B) → x ≡ Some a → Alike P (f a m) (f a k))
        → Alike P ((some_or d x >>= f) m) ((some_or d x >>= f) k)
    unfolding some_or ◌>>=◌ go_on give stop
    some_alike d None f g = record { value = refl; notes = refl; beside = b; work = All-nil (IsOwnWork e); known = tt }
    some_alike d (Some a) f g =
        let h = g a refl in
        record { value = h.value; notes = h.notes; beside = h.beside; work = h.work; known = h.known }

    filled_by : (d d' : Dom) (t : Bool) (x : Option Cap) (f : Cap → Act A)
        → (t ≡ true → (c : Cap) → x ≡ Some c → Alike P (f c m) (f c k))
        → Alike P (((check d t >> some_or d' x) >>= f) m) (((check d t >> some_or d' x) >>= f) k)
    unfolding check some_or ◌>>◌ ◌>>=◌ go_on give stop
    filled_by d d' false x f g = record { value = refl; notes = refl; beside = b; work = All-nil (IsOwnWork e); known = tt }
    filled_by d d' true None f g = record { value = refl; notes = refl; beside = b; work = All-nil (IsOwnWork e); known = tt }
    filled_by d d' true (Some a) f g =
        let h = g refl a refl in
        record { value = h.value; notes = h.notes; beside = h.beside; work = h.work; known = h.known }

    pub filled_alike : (d : Dom) (a : ℕ) (f : Cap → Act A)
        → (nat_lt a 64 ≡ true → (c : Cap) → cap_at d.caps a ≡ Some c → Alike P (f c m) (f c k))
        → Alike P ((filled d a >>= f) m) ((filled d a >>= f) k)
    unfolding filled is_slot
    filled_alike d a f g = filled_by (refused 2 d) (refused 3 d) (nat_lt a 64) (cap_at d.caps a) f g

    pub allowed_alike : (d : Dom) (r : Option MapRefusal) (y : Act A) → (r ≡ None → Alike P (y m) (y k))
        → Alike P ((allowed d r >> y) m) ((allowed d r >> y) k)
    unfolding allowed ◌>>◌ ◌>>=◌ go_on give stop
    allowed_alike d None y g =
        let h = g refl in
        record { value = h.value; notes = h.notes; beside = h.beside; work = h.work; known = h.known }
    allowed_alike d (Some r) y g = record { value = refl; notes = refl; beside = b; work = All-nil (IsOwnWork e); known = tt }

    pub buffer_alike : (y : Act A) → Alike P (y m) (y k)
        → Alike P ((empty_buffer >> y) m) ((empty_buffer >> y) k)
    unfolding empty_buffer ◌>>◌ ◌>>=◌ go_on
    buffer_alike y h = record {
      value = h.value;
      notes = ap (λ ns. Note.Emptied ∷ ns) h.notes;
      beside = h.beside;
      work = All-cons (IsOwnWork e) Note.Emptied (y m).notes tt h.work;
      known = h.known;
    }

    -- a value that is the same in both memories
    pub read_alike : {B : Type 0} (v w : B) (f : B → Act A) → v ≡ w → Alike P (f v m) (f v k)
        → Alike P (go_on (record { notes = []; state = m; value = inr v }) f (inr v))
        (go_on (record { notes = []; state = k; value = inr w }) f (inr w))
    unfolding go_on
    read_alike {B} v w f same h =
        subst (λ (u : B). Alike P (go_on (record { notes = []; state = m; value = inr v }) f (inr v))
        (go_on (record { notes = []; state = k; value = inr u }) f (inr u))) same
        (record { value = h.value; notes = h.notes; beside = h.beside; work = h.work; known = h.known })
