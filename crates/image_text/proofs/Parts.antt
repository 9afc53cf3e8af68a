-- The parts of the record, field for field, and the items of a pair.
use Rattle.std.proofs.Common.{◌≡◌, ◌≤◌, ◌<◌, ℕ, ℤ, pos, List, [], ◌∷◌, length, drop, get_or, codes, Option, Some, ap, refl, arith}
use Rattle.std.specs.Prelude.{Bool}
use Rattle.toml.specs.declared.value.Value.{Value}
use Rattle.toml.specs.Data.{Members}
use Rattle.toml.specs.View.{view, items_view}
use Rattle.image_record.specs.Record.{RawCache, RawCosts, RawMuldiv, RawSegment, RawMoment, RawDomain, RawEntry, RawMailbox}
use Rattle.image_text.specs.Rows.{items_at, version_of}
use Rattle.image_text.specs.Record as spec
use Rattle.image_text.specs.Record.{integer_of, first_item, second_item, integer_at, natural_at, text_at, integers_at, integers_if_at, texts_at, map_items, segment_in, moment_in, domain_in, entry_in, mailbox_in, cache_at, back_at, costs_at, muldiv_at, targets_at}

pub domain_of : (t : Members) (name : List ℕ) (colours : List ℤ) (entry : ℕ) (segments : List RawSegment)
    (caps : List (List ℕ)) (lines : List ℤ) (moments : List RawMoment) (calls : Option (List ℤ))
    → name ≡ text_at (codes "name") t → colours ≡ integers_at (codes "colours") t → entry ≡ natural_at (codes "entry") 0 4294967295 t
    → segments ≡ map_items segment_in (items_at (codes "segment") t) → caps ≡ texts_at (codes "caps") t
    → lines ≡ integers_at (codes "lines") t
    → moments ≡ map_items moment_in (items_at (codes "moments") t) → calls ≡ integers_if_at (codes "calls") t
    → record {
      name = name;
      colours = colours;
      entry = entry;
      segments = segments;
      caps = caps;
      lines = lines;
      moments = moments;
      calls = calls;
    } ≡ spec.domain_of t
unfolding spec.domain_of
domain_of t name colours entry segments caps lines moments calls e1 e2 e3 e4 e5 e6 e7 e8 = rw (e1, e2, e3, e4, e5, e6, e7, e8) refl

pub record_of : (t : Members) (version : ℕ) (frames shared line : ℤ) (l1i l1d l2 : RawCache) (back : Bool)
    (tlb : RawCache) (predictor history : ℤ) (costs : RawCosts) (muldiv : Option RawMuldiv)
    (targets : Option ℤ) (domains : List RawDomain) (schedule : List RawEntry) (mail : List RawMailbox)
    → version ≡ version_of t → frames ≡ integer_at (codes "frames") t → shared ≡ integer_at (codes "shared") t
    → line ≡ integer_at (codes "line") t
    → l1i ≡ cache_at (codes "l1i") t → l1d ≡ cache_at (codes "l1d") t → l2 ≡ cache_at (codes "l2") t
    → back ≡ back_at t → tlb ≡ cache_at (codes "tlb") t
    → predictor ≡ integer_at (codes "predictor") t → history ≡ integer_at (codes "history") t
    → costs ≡ costs_at t → muldiv ≡ muldiv_at t → targets ≡ targets_at t
    → domains ≡ map_items domain_in (items_at (codes "domain") t) → schedule ≡ map_items entry_in (items_at (codes "schedule") t)
    → mail ≡ map_items mailbox_in (items_at (codes "mail") t)
    → record {
      version = version;
      frames = frames;
      shared = shared;
      line = line;
      l1i = l1i;
      l1d = l1d;
      l2 = l2;
      back = back;
      tlb = tlb;
      predictor = predictor;
      history = history;
      costs = costs;
      muldiv = muldiv;
      targets = targets;
      domains = domains;
      schedule = schedule;
      mail = mail;
    } ≡ spec.record_of t
unfolding spec.record_of
record_of t version frames shared line l1i l1d l2 back tlb predictor history costs muldiv targets domains
    schedule mail e1 e2 e3 e4 e5 e6 e7 e8 e9 e10 e11 e12 e13 e14 e15 e16 e17 =
    rw (e1, e2, e3, e4, e5, e6, e7, e8, e9, e10, e11, e12, e13, e14, e15, e16, e17) refl

-- ---- the first item of a pair

pub no_first : (vs : List Value) → length vs < 1 → pos 0 ≡ first_item (items_view vs)
no_first [] h = refl
no_first (v ∷ vs) h = absurd (omega (arith, h))

pub first_is : (vs : List Value) (v d : Value) → 1 ≤ length vs → v ≡ get_or vs 0 d
    → integer_of (Some (view v)) ≡ first_item (items_view vs)
first_is [] v d h is = absurd (omega (arith, h))
first_is (x ∷ vs) v d h is = ap (λ w. integer_of (Some (view w))) is

pub no_second : (vs : List Value) → length vs < 1 → pos 0 ≡ second_item (items_view vs)
no_second [] h = refl
no_second (v ∷ vs) h = absurd (omega (arith, h))

pub second_is : (vs rest : List Value) → rest ≡ drop 1 vs → 1 ≤ length vs
    → first_item (items_view rest) ≡ second_item (items_view vs)
second_is [] rest is h = absurd (omega (arith, h))
second_is (v ∷ vs) rest is h = ap (λ ws. first_item (items_view ws)) is
