-- What the steps of calls note: entries that are written, a frame that is zeroed, and the buffer that is emptied.
use Rattle.std.proofs.Common.{◌≡◌, ◌∙◌, ap, sym, subst, refl, inl, inr, ◌⊎◌, ℕ, ◌+◌, ◌≤◌, Bool, true, false, arith, lt-ltb, ltb-true, ◌<◌, List, [], ◌∷◌, ◌++◌, length, Option, Some, None}
use Rattle.std.proofs.lemmas.List.{length-append, get_or_at}
use Rattle.std.proofs.lemmas.Option.{slice_get-get_or}
use Rattle.std.specs.Prelude.{nat_eq, nat_lt, ◌&&◌, ◌-◌, if◌then◌else◌, slice_get}
use Rattle.tp_base.specs.Act.{Done, go_on, ◌>>=◌, ◌>>◌, give, stop, check, either}
use Rattle.phys_mem.specs.Mem.{Mem}
use Rattle.page_map.specs.declared.refusal.MapRefusal.{MapRefusal}
use Rattle.page_map.specs.declared.refusal.MapRefusal.TheVariants as refusal
use Rattle.page_map.specs.Tables.{map_refusal, install_refusal}
use Rattle.pad_bound.specs.Worst.{most_entries_of}
use Rattle.cap_table.specs.declared.Cap.{Cap}
use Rattle.cap_table.specs.declared.Cap.TheVariants as cap
use Rattle.cap_table.specs.Slots.{cap_at}
use Rattle.call_table.specs.declared.Reply.{Reply}
use Rattle.call_table.specs.Domain.{Dom, reply_past, placed, replied, done, refused, with_caps}
use Rattle.call_table.specs.Claims.{Estate}
use Rattle.call_table.specs.Calls.{Note, Act, zeroed_in, entries_in, empties, clears_entries, is_done, zero_out, page_refusal, table_refusal, map_at, unmap_at, unmap_all, install_at, uninstall_at, empty_buffer, some_or, is_slot, filled, allowed, unless_refused, with_slot, clear_entry, drop_slot}
use Rattle.page_map.specs.Changes.{unmapped}
use Rattle.call_table.proofs.RevokedSlots.{after_all}
use Rattle.call_table.proofs.QuietCalls.{Quiet}

-- ---- notes one after another

zeroed-append : (ns ms : List Note) → zeroed_in ns ≡ None → zeroed_in (ns ++ ms) ≡ zeroed_in ms
unfolding zeroed_in
zeroed-append [] ms none = refl
zeroed-append (Note.Zeroed f ∷ ns) ms none = absurd (cc none)
zeroed-append (Note.Entry at ∷ ns) ms none = zeroed-append ns ms none
zeroed-append (Note.Emptied ∷ ns) ms none = zeroed-append ns ms none

pub entries-append : (ns ms : List Note) → entries_in (ns ++ ms) ≡ entries_in ns ++ entries_in ms
unfolding entries_in
entries-append [] ms = refl
entries-append (Note.Zeroed f ∷ ns) ms = entries-append ns ms
entries-append (Note.Entry at ∷ ns) ms = ap (λ (es : List ℕ). at ∷ es) (entries-append ns ms)
entries-append (Note.Emptied ∷ ns) ms = entries-append ns ms

empties-append : (ns ms : List Note) → empties ns ≡ false → empties (ns ++ ms) ≡ empties ms
unfolding empties
empties-append [] ms quiet = refl
empties-append (Note.Zeroed f ∷ ns) ms quiet = empties-append ns ms quiet
empties-append (Note.Entry at ∷ ns) ms quiet = empties-append ns ms quiet
empties-append (Note.Emptied ∷ ns) ms quiet = absurd (cc quiet)

-- at most so many entries, and nothing else
pub record Writes (n : ℕ) (ns : List Note) : Type 0 where
  pub zeroed : zeroed_in ns ≡ None
  pub few : length (entries_in ns) ≤ n
  pub quiet : empties ns ≡ false

-- leaves that are cleared write one entry each
all_written : (root : ℕ) (vas : List ℕ) (m : Mem) → Writes (length vas) (unmap_all root vas m).notes
unfolding unmap_all unmap_at give ◌>>◌ ◌>>=◌ go_on zeroed_in entries_in empties
all_written root [] m = record { zeroed = refl; few = omega arith; quiet = refl }
all_written root (va ∷ vas) m =
    let rest = all_written root vas (unmapped m root va) in
    record { zeroed = rest.zeroed; few = omega (arith, rest.few); quiet = rest.quiet }

-- ---- slots that are emptied

-- a domain with the replies that it had, and at most so many entries
abbrev Dropped : Dom → ℕ → Dom ⊎ Dom → List Note → Type 0
Dropped d n (inl x) ns = ⊥
Dropped d n (inr x) ns = (x.replies ≡ d.replies) × Writes n ns

pub record Drops (d : Dom) (n : ℕ) (y : Act Dom) : Type 0 where
  each : (m : Mem) → Dropped d n (y m).value (y m).notes

fewer : (d : Dom) (n k : ℕ) (v : Dom ⊎ Dom) (ns : List Note) → n ≤ k → Dropped d n v ns → Dropped d k v ns
fewer d n k (inl x) ns below h = h
fewer d n k (inr x) ns below h = (h.0, record { zeroed = h.1.zeroed; few = omega (arith, h.1.few, below); quiet = h.1.quiet })

pub drops_fewer : (d : Dom) (n k : ℕ) (y : Act Dom) → n ≤ k → Drops d n y → Drops d k y
drops_fewer d n k y below h = record { each = λ m. fewer d n k (y m).value (y m).notes below (h.each m) }

cleared : (root i : ℕ) (d : Dom) (c : Option Cap)
    → Drops d 1 (clear_entry root c >> give (with_slot d i None))
unfolding clear_entry unmap_at uninstall_at give ◌>>◌ ◌>>=◌ go_on with_caps zeroed_in entries_in empties
cleared root i d None = record { each = λ m. (refl, record { zeroed = refl; few = omega arith; quiet = refl }) }
cleared root i d (Some (cap.Frame f rights None)) = record { each = λ m. (refl, record { zeroed = refl; few = omega arith; quiet = refl }) }
cleared root i d (Some (cap.Frame f rights (Some va))) =
    record { each = λ m. (refl, record { zeroed = refl; few = omega arith; quiet = refl }) }
cleared root i d (Some (cap.Table f None)) = record { each = λ m. (refl, record { zeroed = refl; few = omega arith; quiet = refl }) }
cleared root i d (Some (cap.Table f (Some va))) = record { each = λ m. (refl, record { zeroed = refl; few = omega arith; quiet = refl }) }
cleared root i d (Some (cap.Irq line)) = record { each = λ m. (refl, record { zeroed = refl; few = omega arith; quiet = refl }) }

-- at most the one entry of the slot
pub drop_slot_drops : (e : Estate) (i : ℕ) (d : Dom) → Drops d 1 (drop_slot e i d)
unfolding drop_slot
drop_slot_drops e i d = cleared e.root i d (cap_at d.caps i)

-- ---- the work of a call

-- a reply is the last past any that the domain had before
pub last_reply : (x : Dom) (before code value : ℕ) → before ≤ length x.replies
    → reply_past before (replied code value x) ≡ Some (record { code = code; value = value })
unfolding replied placed
last_reply x before code value had =
    let new : Reply = record { code = code; value = value } in
    let all : List Reply = x.replies ++ new ∷ [] in
    let one_more : length all ≡ length x.replies + 1 = length-append x.replies (new ∷ []) in
    ap (λ (t : Bool). if t then slice_get all (length all - 1) else None) (lt-ltb before (length all) (omega (arith, had, one_more)))
    ∙ slice_get-get_or all (length all - 1) new (omega (arith, one_more))
    ∙ ap Some (get_or_at x.replies new [] new (length all - 1) (omega (arith, one_more)))

-- and past those of a domain with as many
first_reply : (d x : Dom) (code value : ℕ) → x.replies ≡ d.replies
    → reply_past (length d.replies) (replied code value x) ≡ Some (record { code = code; value = value })
first_reply d x code value same = last_reply x (length d.replies) code value (omega (arith, ap length same))

-- of a call that empties the buffer where it is done, or never: whether it does, by its end
abbrev pub emptied_by : Bool → Dom ⊎ Dom → Bool
emptied_by t (inl x) = false
emptied_by t (inr x) = t

-- the work of the call of this number
pub record IsWork (d : Dom) (number : ℕ) (v : Dom ⊎ Dom) (ns : List Note) : Type 0 where
  pub buffer : empties ns ≡ emptied_by (clears_entries number) v
  pub reply : emptied_by (clears_entries number) v
      ≡ (clears_entries number && is_done (reply_past (length d.replies) (either v)))
  pub few : length (entries_in ns) ≤ most_entries_of number
  pub zeroes : (frame : ℕ) → zeroed_in ns ≡ Some frame → number ≡ 2

pub record Works (d : Dom) (number : ℕ) (y : Act Dom) : Type 0 where
  pub each : (m : Mem) → IsWork d number (y m).value (y m).notes

never_both : (t b : Bool) → b ≡ false → false ≡ (t && b)
never_both true b e = sym e
never_both false b e = refl

never_empties : (t b : Bool) (v : Dom ⊎ Dom) → t ≡ false
    → (false ≡ emptied_by t v) × (emptied_by t v ≡ (t && b))
never_empties true b v e = absurd (cc e)
never_empties false b (inl x) e = (refl, refl)
never_empties false b (inr x) e = (refl, refl)

-- where nothing is zeroed
none_zeroed : (number : ℕ) (ns : List Note) → zeroed_in ns ≡ None → (frame : ℕ) → zeroed_in ns ≡ Some frame
    → number ≡ 2
none_zeroed number ns none frame e = absurd (cc (sym none ∙ e))

module _ (d : Dom) (number : ℕ) where
  stopped : (code : ℕ) → nat_eq code 0 ≡ false → IsWork d number (inl (refused code d)) []
  unfolding either zeroed_in entries_in empties
  stopped code bad = record {
    buffer = refl;
    reply = never_both (clears_entries number) _ (ap is_done (first_reply d d code 0 refl) ∙ bad);
    few = omega arith;
    zeroes = none_zeroed number [] refl;
  }

  pub stop_works : (code : ℕ) → nat_eq code 0 ≡ false → Works d number (stop (refused code d))
  unfolding stop
  stop_works code bad = record { each = λ m. stopped code bad }

  pub check_works : (code : ℕ) (b : Bool) (y : Act Dom) → nat_eq code 0 ≡ false → Works d number y
      → Works d number (check (refused code d) b >> y)
  unfolding check ◌>>◌ ◌>>=◌ go_on give stop
  check_works code true y bad h = record { each = λ m. h.each m }
  check_works code false y bad h = record { each = λ m. stopped code bad }

  pub some_works : {A : Type 0} (code : ℕ) (o : Option A) (f : A → Act Dom) → nat_eq code 0 ≡ false
      → ((a : A) → Works d number (f a))
      → Works d number (some_or (refused code d) o >>= f)
  unfolding some_or ◌>>=◌ go_on give stop
  some_works code None f bad h = record { each = λ m. stopped code bad }
  some_works code (Some a) f bad h = record { each = λ m. (h a).each m }

  filled_by : (b : Bool) (o : Option Cap) (f : Cap → Act Dom) → ((c : Cap) → b ≡ true → Works d number (f c))
      → Works d number ((check (refused 2 d) b >> some_or (refused 3 d) o) >>= f)
  unfolding check some_or ◌>>◌ ◌>>=◌ go_on give stop
  filled_by false o f h = record { each = λ m. stopped 2 refl }
  filled_by true None f h = record { each = λ m. stopped 3 refl }
  filled_by true (Some c) f h = record { each = λ m. (h c refl).each m }

  pub filled_works : (a : ℕ) (f : Cap → Act Dom) → ((c : Cap) → a < 64 → Works d number (f c))
      → Works d number (filled d a >>= f)
  unfolding filled is_slot
  filled_works a f h = filled_by (nat_lt a 64) (cap_at d.caps a) f (λ c is. h c (ltb-true a 64 is))

  pub slot_works : (a : ℕ) (y : Act Dom) → Works d number y → Works d number (is_slot d a >> y)
  unfolding is_slot
  slot_works a y h = check_works 2 (nat_lt a 64) y refl h

  pub page_refusal_works : (root va : ℕ) (f : Option MapRefusal → Act Dom)
      → ((r : Option MapRefusal) → Works d number (f r))
      → Works d number (page_refusal root va >>= f)
  unfolding page_refusal ◌>>=◌ go_on
  page_refusal_works root va f h = record { each = λ m. (h (map_refusal m root va)).each m }

  pub table_refusal_works : (root va : ℕ) (f : Option MapRefusal → Act Dom)
      → ((r : Option MapRefusal) → Works d number (f r))
      → Works d number (table_refusal root va >>= f)
  unfolding table_refusal ◌>>=◌ go_on
  table_refusal_works root va f h = record { each = λ m. (h (install_refusal m root va)).each m }

  pub allowed_works : (o : Option MapRefusal) (y : Act Dom) → Works d number y
      → Works d number (allowed d o >> y)
  unfolding allowed ◌>>◌ ◌>>=◌ go_on give stop
  allowed_works None y h = record { each = λ m. h.each m }
  allowed_works (Some refusal.BadAddress) y h = record { each = λ m. stopped 7 refl }
  allowed_works (Some refusal.Mapped) y h = record { each = λ m. stopped 8 refl }
  allowed_works (Some refusal.NoTable) y h = record { each = λ m. stopped 9 refl }

  pub unless_works : (o : Option ℕ) (y : Act Dom) → ((code : ℕ) → o ≡ Some code → nat_eq code 0 ≡ false)
      → Works d number y
      → Works d number (unless_refused d o >> y)
  unfolding unless_refused ◌>>◌ ◌>>=◌ go_on give stop
  unless_works None y bad h = record { each = λ m. h.each m }
  unless_works (Some code) y bad h = record { each = λ m. stopped code (bad code refl) }

-- ---- what a call does last, where it never empties the buffer

module _ (d : Dom) (number : ℕ) (quiet : clears_entries number ≡ false) where
  nothing_done : (v : Dom ⊎ Dom) → IsWork d number v []
  unfolding zeroed_in entries_in empties
  nothing_done v =
      let never = never_empties (clears_entries number) (is_done (reply_past (length d.replies) (either v))) v quiet in
      record { buffer = never.0; reply = never.1; few = omega arith; zeroes = none_zeroed number [] refl }

  pub quiet_works : (y : Act Dom) → Quiet d y → Works d number y
  quiet_works y q = record {
    each = λ m. subst (λ (ns : List Note). IsWork d number (y m).value ns) (sym (q.no_work m)) (nothing_done (y m).value);
  }

  pub give_works : (x : Dom) → Works d number (give x)
  unfolding give
  give_works x = record { each = λ m. nothing_done (inr x) }

module _ (d : Dom) where
  pub zero_works : (f : ℕ) (x : Dom) → Works d 2 (zero_out f >> give x)
  unfolding zero_out give ◌>>◌ ◌>>=◌ go_on zeroed_in entries_in empties
  zero_works f x = record { each = λ m. record { buffer = refl; reply = refl; few = omega arith; zeroes = λ frame is. refl } }

  pub map_at_works : (root va f rights : ℕ) (x : Dom) → Works d 4 (map_at root va f rights >> give x)
  unfolding map_at give ◌>>◌ ◌>>=◌ go_on zeroed_in entries_in empties
  map_at_works root va f rights x = record {
    each = λ m. record { buffer = refl; reply = refl; few = omega arith; zeroes = none_zeroed 4 (map_at root va f rights m).notes refl };
  }

  pub install_at_works : (root va f : ℕ) (x : Dom) → Works d 3 (install_at root va f >> give x)
  unfolding install_at give ◌>>◌ ◌>>=◌ go_on zeroed_in entries_in empties
  install_at_works root va f x = record {
    each = λ m. record { buffer = refl; reply = refl; few = omega arith; zeroes = none_zeroed 3 (install_at root va f m).notes refl };
  }

-- ---- and where it empties it

always_empties : (t b : Bool) (x : Dom) → t ≡ true → b ≡ true
    → (true ≡ emptied_by t (inr x)) × (emptied_by t (inr x) ≡ (t && b))
always_empties true b x e done = (refl, sym done)
always_empties false b x e done = absurd (cc e)

module _ (d : Dom) (number : ℕ) (clears : clears_entries number ≡ true) where
  emptied : (x : Dom) (value : ℕ) (ns : List Note) → x.replies ≡ d.replies
      → Writes (most_entries_of number) ns
      → IsWork d number (inr (done value x)) (ns ++ Note.Emptied ∷ [])
  unfolding either zeroed_in entries_in empties
  emptied x value ns same h =
      let always = always_empties (clears_entries number) _ (done value x) clears (ap is_done (first_reply d x 0 value same)) in
      record {
        buffer = empties-append ns (Note.Emptied ∷ []) h.quiet ∙ always.0;
        reply = always.1;
        few = omega (arith, h.few, ap length (entries-append ns (Note.Emptied ∷ [])), length-append (entries_in ns) []);
        zeroes = none_zeroed number (ns ++ Note.Emptied ∷ []) (zeroed-append ns (Note.Emptied ∷ []) h.zeroed);
      }

  emptied_on : (r : Done Mem Note Dom Dom) (v : Dom ⊎ Dom) (value : ℕ)
      → Dropped d (most_entries_of number) v r.notes
      → IsWork d number (go_on r (λ x. empty_buffer >> give (done value x)) v).value
      (go_on r (λ x. empty_buffer >> give (done value x)) v).notes
  unfolding go_on ◌>>◌ ◌>>=◌ empty_buffer give
  emptied_on r (inl x) value h = absurd h
  emptied_on r (inr x) value h = emptied x value r.notes h.0 h.1

  pub drops_works : (y : Act Dom) (value : ℕ) → Drops d (most_entries_of number) y
      → Works d number (y >>= λ x. empty_buffer >> give (done value x))
  unfolding ◌>>=◌
  drops_works y value h = record { each = λ m. emptied_on (y m) (y m).value value (h.each m) }

  pub unmap_all_works : (root : ℕ) (vas : List ℕ) (x : Dom) (value : ℕ) → length vas ≤ most_entries_of number
      → x.replies ≡ d.replies
      → Works d number (unmap_all root vas >> (empty_buffer >> give (done value x)))
  unfolding empty_buffer give ◌>>◌ ◌>>=◌ go_on
  unmap_all_works root vas x value few same = record {
    each = λ m.
        let w = all_written root vas m in
        subst (λ (r : Done Mem Note Dom Dom). IsWork d number r.value r.notes)
        (sym (after_all root vas (empty_buffer >> give (done value x)) m))
        (emptied x value (unmap_all root vas m).notes same
        (record { zeroed = w.zeroed; few = omega (arith, w.few, few); quiet = w.quiet }));
  }

module _ (d : Dom) where
  pub unmap_at_works : (root va a : ℕ) (c : Option Cap)
      → Works d 5 (unmap_at root va >> (empty_buffer >> give (done 0 (with_slot d a c))))
  unfolding unmap_at empty_buffer give ◌>>◌ ◌>>=◌ go_on with_caps zeroed_in entries_in empties either
  unmap_at_works root va a c = record {
    each = λ m. record {
      buffer = refl;
      reply = sym (ap is_done (first_reply d (with_slot d a c) 0 0 refl));
      few = omega arith;
      zeroes = none_zeroed 5 ((unmap_at root va m).notes ++ Note.Emptied ∷ []) refl;
    };
  }
