-- ALLOC: each refusal, and the frame that is taken.
use Rattle.std.proofs.Common.{rules, refl, ◌≡◌, ◌∙◌, ap, sym, ℕ, true, false, is_some, Option, Some, None, []}
use Rattle.std.specs.Prelude.{slice_get}
use Rattle.cap_table.specs.declared.Cap.{Cap}
use Rattle.cap_table.specs.Slots.{cap_at, is_filled, with_cap}
use Rattle.kernel_call.specs.declared.error.CallError.TheVariants as error
use Rattle.kernel_call.proofs.Keeps.{rest_of, rest_same, same_parts}
use Rattle.kernel_call.proofs.FreesAlloc.{none_stays, ends_past, ends_slot, ends_kind, ends_none, ends_taken, least_unnamed}
use Rattle.kernel_call.proofs.frames.alloc.Goals as goal

empty : (c : Option Cap) → is_some c ≡ false → c ≡ None
empty None e = refl
empty (Some x) e = absurd (cc e)

full : (c : Option Cap) → is_some c ≡ true → is_filled c ≡ true
full None e = absurd (cc e)
full (Some x) e = refl

pub returns-then-a-ge-SLOTS : goal.returns-then-a-ge-SLOTS
returns-then-a-ge-SLOTS c = record {
  does = λ e readings replies m h.
      ends_past e c.args.domain.now c.args.memory.now readings replies m c.args.a c.args.b error.BadSlot h c.if-a-ge-SLOTS.true refl;
  rest = rest_same c.args.domain.now;
  unchanged = refl;
  memory = refl;
  unwritten = refl;
  frames = refl;
}

pub returns-then-is_some : goal.returns-then-is_some
returns-then-is_some c = record {
  does = λ e readings replies m h.
      let used : is_some (cap_at c.args.domain.now.caps c.args.a) ≡ true =
      ap is_some (sym c.get.ensures.cap) ∙ (sym c.is_some.ensures ∙ c.if-is_some.true) in
      ends_slot e c.args.domain.now c.args.domain.now c.args.memory.now readings replies m c.args.a c.args.b h
      c.if-a-ge-SLOTS.false error.Used refl
      (full (cap_at c.args.domain.now.caps c.args.a) used);
  rest = rest_same c.args.domain.now;
  unchanged = refl;
  memory = refl;
  unwritten = refl;
  frames = refl;
}

pub returns-then-b-gt1 : goal.returns-then-b-gt1
returns-then-b-gt1 c = record {
  does = λ e readings replies m h.
      let unused : is_some (cap_at c.args.domain.now.caps c.args.a) ≡ false =
      ap is_some (sym c.get.ensures.cap) ∙ (sym c.is_some.ensures ∙ c.if-is_some.false) in
      ends_kind e c.args.domain.now c.args.domain.now c.args.memory.now readings replies m c.args.a c.args.b h c.if-a-ge-SLOTS.false
      (empty (cap_at c.args.domain.now.caps c.args.a) unused) error.WrongKind refl c.if-b-gt1.true;
  rest = rest_same c.args.domain.now;
  unchanged = refl;
  memory = refl;
  unwritten = refl;
  frames = refl;
}

pub returns-in_default : goal.returns-in_default
returns-in_default c = record {
  does = λ e readings replies m h.
      let unused : is_some (cap_at c.args.domain.now.caps c.args.a) ≡ false =
      ap is_some (sym c.get.ensures.cap) ∙ (sym c.is_some.ensures ∙ c.if-is_some.false) in
      let none : slice_get c.args.domain.now.pool.free 0 ≡ None = sym c.take.ensures.value ∙ c.in_default.is in
      ends_none e c.args.domain.now _ c.args.memory.now readings replies m c.args.a c.args.b h c.if-a-ge-SLOTS.false
      (empty (cap_at c.args.domain.now.caps c.args.a) unused) c.if-b-gt1.false error.NoFrame refl none refl
      refl refl refl c.take.ensures.becomes;
  rest = rest_of c.args.domain.now _ _ _ _ refl;
  unchanged =
      same_parts c.args.domain.now _ _ _ refl
      (c.take.ensures.becomes
      ∙ none_stays c.args.domain.now.pool (sym c.take.ensures.value ∙ c.in_default.is));
  memory = refl;
  unwritten = refl;
  frames = refl;
}

pub put-requires-clause-empty : goal.put-requires-clause-empty
put-requires-clause-empty c =
    empty (cap_at c.args.domain.now.caps c.args.a) (ap is_some (sym c.get.ensures.cap) ∙ (sym c.is_some.ensures ∙ c.if-is_some.false))

pub put-requires-clause-new : goal.put-requires-clause-new
put-requires-clause-new c =
    let v = c.requires.valid in
    c.given_of-given.ensures.new c.args.domain.now.caps
    (least_unnamed v.estate c.args.memory.now v.mem c.args.domain.now v.facts c.in-Some.frame (sym c.take.ensures.value ∙ c.in-Some.is))

pub returns : goal.returns
returns c = record {
  does = λ e readings replies m h.
      let unused : is_some (cap_at c.args.domain.now.caps c.args.a) ≡ false =
      ap is_some (sym c.get.ensures.cap) ∙ (sym c.is_some.ensures ∙ c.if-is_some.false) in
      let number : c.number-number.result ≡ c.in-Some.frame = search rules in
      let t =
      ends_taken e c.args.domain.now c.args.domain.now c.args.memory.now readings replies m c.args.a
      c.args.b h c.if-a-ge-SLOTS.false
      (empty (cap_at c.args.domain.now.caps c.args.a) unused) c.if-b-gt1.false c.in-Some.frame
      c.given_of-given.new.memory c.put.new.self c.take.new.self
      (record { value = 0; work = c.tell_zeroed.new.work })
      (sym c.take.ensures.value ∙ c.in-Some.is)
      (c.put.ensures.becomes ∙ ap (λ (x : Cap). with_cap c.args.domain.now.caps c.args.a (Some x)) c.given_of-given.ensures.given)
      c.take.ensures.becomes (c.given_of-given.ensures.zeroed m h.holds) refl
      (c.tell_zeroed.ensures.zeroed 2 c.requires.fresh ∙ ap (λ (n : ℕ). record { op = 2; zeroed = Some n; entries = [] }) number) in
      record {
        value = t.value;
        holds = t.holds;
        work = t.told;
        has = record { root = t.root; pool = t.free; slots = t.slots; calls = h.has.calls; number = h.has.number };
      };
  rest = rest_of c.args.domain.now _ _ _ _ refl;
  unchanged = tt;
  memory = tt;
  unwritten = tt;
  frames = c.given_of-given.ensures.frames;
}
