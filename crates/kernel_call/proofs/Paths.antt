-- How the action of a call runs: each step that does nothing is passed, or ends it.
use Rattle.std.proofs.Common.{◌≡◌, ℕ, Bool, true, false, Option, Some, None, List, ◌++◌, inl, inr, refl, ap, sym, ◌∙◌, ◌<◌, ◌≤◌}
use Rattle.std.proofs.lemmas.Bool.{lt-ltb, le-ltb}
use Rattle.std.specs.Prelude.{nat_lt, Result}
use Rattle.tp_base.specs.Act as act
use Rattle.tp_base.specs.Act.{go_on, ◌>>=◌, ◌>>◌, give, stop, check}
use Rattle.phys_mem.specs.Mem.{Mem}
use Rattle.page_map.specs.declared.refusal.MapRefusal.{MapRefusal}
use Rattle.page_map.specs.Tables.{map_refusal, install_refusal}
use Rattle.cap_table.specs.declared.Cap.{Cap}
use Rattle.cap_table.specs.Slots.{cap_at}
use Rattle.call_table.specs.Domain.{Dom, refused}
use Rattle.call_table.specs.Calls.{Note, Act, page_refusal, table_refusal, some_or, is_slot, filled, allowed, error_of, unless_refused}
use Rattle.std.specs.Option.{ok_or}
use Rattle.kernel_call.specs.declared.error.CallError.{CallError}
use Rattle.kernel_call.specs.declared.error.CallError.TheVariants as error
use Rattle.kernel_call.specs.Facts.{reads, end_of}

-- ---- a chain goes on after a step, or ends with it

pub goes_on : {A B : Type 0} (x : Act A) (f : A → Act B) (m : Mem) (a : A) → x m ≡ reads m (inr a)
    → (x >>= f) m ≡ f a m
unfolding ◌>>=◌ go_on
goes_on {A} x f m a e = ap (λ (r : act.Done Mem Note Dom A). go_on r f r.value) e

pub ends_there : {A B : Type 0} (x : Act A) (f : A → Act B) (m : Mem) (d : Dom) → x m ≡ reads m (inl d)
    → (x >>= f) m ≡ reads m (inl d)
unfolding ◌>>=◌ go_on
ends_there {A} x f m d e = ap (λ (r : act.Done Mem Note Dom A). go_on r f r.value) e

pub then_goes : {A B : Type 0} (x : Act A) (y : Act B) (m : Mem) (a : A) → x m ≡ reads m (inr a)
    → (x >> y) m ≡ y m
unfolding ◌>>◌
then_goes x y m a e = goes_on x (λ _. y) m a e

pub then_ends : {A B : Type 0} (x : Act A) (y : Act B) (m : Mem) (d : Dom) → x m ≡ reads m (inl d)
    → (x >> y) m ≡ reads m (inl d)
unfolding ◌>>◌
then_ends x y m d e = ends_there x (λ _. y) m d e

-- a step that does something is made first
pub runs : {A B : Type 0} (x : Act A) (y : Act B) (m n : Mem) (ns : List Note) (a : A)
    → x m ≡ record { notes = ns; state = n; value = inr a }
    → (x >> y) m ≡ record { notes = ns ++ (y n).notes; state = (y n).state; value = (y n).value }
unfolding ◌>>◌ ◌>>=◌ go_on
runs {A} x y m n ns a e = ap (λ (r : act.Done Mem Note Dom A). go_on r (λ _. y) r.value) e

pub runs_to : {A B : Type 0} (x : Act A) (y : Act B) (m n : Mem) (ns : List Note) (a : A)
    (q : act.Done Mem Note Dom B)
    → x m ≡ record { notes = ns; state = n; value = inr a } → y n ≡ q
    → (x >> y) m ≡ record { notes = ns ++ q.notes; state = q.state; value = q.value }
runs_to {A} {B} x y m n ns a q e then =
    runs x y m n ns a e ∙ ap (λ (q : act.Done Mem Note Dom B). record { notes = ns ++ q.notes; state = q.state; value = q.value }) then

-- ---- each test, passed or not

pub check_passes : (d : Dom) (b : Bool) (m : Mem) → b ≡ true → check d b m ≡ reads m (inr tt)
unfolding check give
check_passes d b m e = ap (λ (b : Bool). check d b m) e

pub check_stops : (d : Dom) (b : Bool) (m : Mem) → b ≡ false → check d b m ≡ reads m (inl d)
unfolding check stop
check_stops d b m e = ap (λ (b : Bool). check d b m) e

pub some_passes : {A : Type 0} (d : Dom) (o : Option A) (a : A) (m : Mem) → o ≡ Some a
    → some_or d o m ≡ reads m (inr a)
unfolding some_or give
some_passes {A} d o a m e = ap (λ (o : Option A). some_or d o m) e

pub some_stops : {A : Type 0} (d : Dom) (o : Option A) (m : Mem) → o ≡ None → some_or d o m ≡ reads m (inl d)
unfolding some_or stop
some_stops {A} d o m e = ap (λ (o : Option A). some_or d o m) e

pub slot_passes : (d : Dom) (a : ℕ) (m : Mem) → a < 64 → is_slot d a m ≡ reads m (inr tt)
unfolding is_slot
slot_passes d a m below = check_passes (refused 2 d) (nat_lt a 64) m (lt-ltb a 64 below)

pub slot_stops : (d : Dom) (a : ℕ) (m : Mem) → 64 ≤ a → is_slot d a m ≡ reads m (inl (refused 2 d))
unfolding is_slot
slot_stops d a m above = check_stops (refused 2 d) (nat_lt a 64) m (le-ltb a 64 above)

pub filled_passes : (d : Dom) (a : ℕ) (c : Cap) (m : Mem) → a < 64 → cap_at d.caps a ≡ Some c
    → filled d a m ≡ reads m (inr c)
unfolding filled
filled_passes d a c m below there =
    then_goes (is_slot d a) (some_or (refused 3 d) (cap_at d.caps a)) m tt (slot_passes d a m below)
    ∙ some_passes (refused 3 d) (cap_at d.caps a) c m there

pub page_refusal_passes : (root va : ℕ) (m : Mem)
    → page_refusal root va m ≡ reads m (inr (map_refusal m root va))
unfolding page_refusal
page_refusal_passes root va m = refl

pub table_refusal_passes : (root va : ℕ) (m : Mem)
    → table_refusal root va m ≡ reads m (inr (install_refusal m root va))
unfolding table_refusal
table_refusal_passes root va m = refl

pub allowed_passes : (d : Dom) (o : Option MapRefusal) (m : Mem) → o ≡ None → allowed d o m ≡ reads m (inr tt)
unfolding allowed give
allowed_passes d o m e = ap (λ (o : Option MapRefusal). allowed d o m) e

pub allowed_stops : (d : Dom) (o : Option MapRefusal) (r : MapRefusal) (m : Mem) → o ≡ Some r
    → allowed d o m ≡ reads m (inl (refused (error_of r) d))
unfolding allowed stop
allowed_stops d o r m e = ap (λ (o : Option MapRefusal). allowed d o m) e

pub unless_passes : (d : Dom) (o : Option ℕ) (m : Mem) → o ≡ None → unless_refused d o m ≡ reads m (inr tt)
unfolding unless_refused give
unless_passes d o m e = ap (λ (o : Option ℕ). unless_refused d o m) e

pub unless_stops : (d : Dom) (o : Option ℕ) (code : ℕ) (m : Mem) → o ≡ Some code
    → unless_refused d o m ≡ reads m (inl (refused code d))
unfolding unless_refused stop
unless_stops d o code m e = ap (λ (o : Option ℕ). unless_refused d o m) e

-- ---- the same as first steps of a chain

pub check_then : {B : Type 0} (d : Dom) (b : Bool) (y : Act B) (m : Mem) → b ≡ true → (check d b >> y) m ≡ y m
check_then d b y m e = then_goes (check d b) y m tt (check_passes d b m e)

pub check_ends : {B : Type 0} (d : Dom) (b : Bool) (y : Act B) (m : Mem) → b ≡ false
    → (check d b >> y) m ≡ reads m (inl d)
check_ends d b y m e = then_ends (check d b) y m d (check_stops d b m e)

pub some_then : {A B : Type 0} (d : Dom) (o : Option A) (f : A → Act B) (a : A) (m : Mem) → o ≡ Some a
    → (some_or d o >>= f) m ≡ f a m
some_then d o f a m e = goes_on (some_or d o) f m a (some_passes d o a m e)

pub some_ends : {A B : Type 0} (d : Dom) (o : Option A) (f : A → Act B) (m : Mem) → o ≡ None
    → (some_or d o >>= f) m ≡ reads m (inl d)
some_ends d o f m e = ends_there (some_or d o) f m d (some_stops d o m e)

pub slot_then : {B : Type 0} (d : Dom) (a : ℕ) (y : Act B) (m : Mem) → a < 64 → (is_slot d a >> y) m ≡ y m
slot_then d a y m below = then_goes (is_slot d a) y m tt (slot_passes d a m below)

pub slot_ends : {B : Type 0} (d : Dom) (a : ℕ) (y : Act B) (m : Mem) → 64 ≤ a
    → (is_slot d a >> y) m ≡ reads m (inl (refused 2 d))
slot_ends d a y m above = then_ends (is_slot d a) y m (refused 2 d) (slot_stops d a m above)

pub filled_then : {B : Type 0} (d : Dom) (a : ℕ) (f : Cap → Act B) (c : Cap) (m : Mem) → a < 64
    → cap_at d.caps a ≡ Some c → (filled d a >>= f) m ≡ f c m
filled_then d a f c m below there = goes_on (filled d a) f m c (filled_passes d a c m below there)

pub filled_stops : (d : Dom) (a : ℕ) (m : Mem) → 64 ≤ a → filled d a m ≡ reads m (inl (refused 2 d))
unfolding filled
filled_stops d a m above = slot_ends d a (some_or (refused 3 d) (cap_at d.caps a)) m above

pub filled_empty : (d : Dom) (a : ℕ) (m : Mem) → a < 64 → cap_at d.caps a ≡ None
    → filled d a m ≡ reads m (inl (refused 3 d))
unfolding filled
filled_empty d a m below none =
    slot_then d a (some_or (refused 3 d) (cap_at d.caps a)) m below ∙ some_stops (refused 3 d) (cap_at d.caps a) m none

-- the capability in a slot, or why there is none
pub filled_found : (d : Dom) (a : ℕ) (o : Option Cap) (r : Result Cap CallError) (m : Mem) → a < 64
    → cap_at d.caps a ≡ o → r ≡ ok_or o error.Empty
    → filled d a m ≡ reads m (end_of d r)
filled_found d a None r m below there is =
    filled_empty d a m below there ∙ ap (λ (r : Result Cap CallError). reads m (end_of d r)) (sym is)
filled_found d a (Some c) r m below there is =
    filled_passes d a c m below there ∙ ap (λ (r : Result Cap CallError). reads m (end_of d r)) (sym is)
