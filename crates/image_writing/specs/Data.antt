-- The table of TOML that a record is written as.
use Rattle.std.specs.Prelude.{ℕ, ℤ, pos, Bool, List, [], ◌∷◌, map, codes, Option, Some, None, option_map}
use Rattle.std.specs.Cmp.Lexicographic.{slice_cmp}
use Rattle.std.specs.Ordering.{nat_cmp, match_ordering}
use Rattle.toml.specs.Data.{Data, string, integer, boolean, array, table, no_items, item, Members, no_members, member}
use Rattle.toml.specs.View.{items_of}
use Rattle.image_record.specs.Record.{Raw, RawCache, RawCosts, RawMuldiv, RawSegment, RawMoment, RawDomain, RawEntry, RawMailbox}

-- ---- values

abbrev pub number : ℕ → Data
number n = integer (pos n)

abbrev pub integers : List ℤ → Data
integers zs = array (items_of (map integer zs))

abbrev pub texts : List (List ℕ) → Data
texts ss = array (items_of (map string ss))

-- ---- tables

-- the members with a value at a key, in the order of keys
abbrev pub put_member : List ℕ → Data → Members → Members
put_member key d no_members = member key d no_members
put_member key d (member l e ms) =
    match_ordering (slice_cmp nat_cmp key l) (member key d (member l e ms)) (member l d ms)
    (member l e (put_member key d ms))

-- with the value, if there is one
abbrev pub put_if : List ℕ → Option Data → Members → Members
put_if key None ms = ms
put_if key (Some d) ms = put_member key d ms

-- ---- the parts

unfoldable pub cache_members : RawCache → Members
cache_members c =
    member (codes "policy") (string c.policy) (member (codes "sets") (integer c.sets)
    (member (codes "ways") (integer c.ways) no_members))

-- the second level's says whether dirty lines are written back into it
unfoldable pub level2_members : RawCache → Bool → Members
level2_members c back =
    member (codes "back") (boolean back) (member (codes "policy") (string c.policy)
    (member (codes "sets") (integer c.sets) (member (codes "ways") (integer c.ways) no_members)))

unfoldable pub costs_members : RawCosts → Members
costs_members c =
    member (codes "base") (integer c.base) (member (codes "flush") (integer c.flush)
    (member (codes "l1") (integer c.l1) (member (codes "l2") (integer c.l2)
    (member (codes "mem") (integer c.mem) (member (codes "mispredict") (integer c.mispredict)
    (member (codes "tlb") (integer c.tlb) (member (codes "trap") (integer c.trap)
    (member (codes "wb") (integer c.wb) no_members))))))))

unfoldable pub muldiv_members : RawMuldiv → Members
muldiv_members c = member (codes "div") (integer c.div) (member (codes "mul") (integer c.mul) no_members)

unfoldable pub segment_members : RawSegment → Members
segment_members s =
    member (codes "hex") (string s.hex) (member (codes "page") (number s.page)
    (member (codes "pages") (number s.pages) (member (codes "rights") (string s.rights) no_members)))

abbrev pub segment_data : RawSegment → Data
segment_data s = table (segment_members s)

abbrev pub moment_data : RawMoment → Data
moment_data m = array (item (integer m.at) (item (integer m.line) no_items))

-- what every domain has
abbrev pub plain_domain : RawDomain → Members
plain_domain o =
    member (codes "caps") (texts o.caps)
    (member (codes "colours") (integers o.colours) (member (codes "entry") (number o.entry)
    (member (codes "lines") (integers o.lines)
    (member (codes "moments") (array (items_of (map moment_data o.moments))) (member (codes "name") (string o.name)
    (member (codes "segment") (array (items_of (map segment_data o.segments))) no_members))))))

unfoldable pub domain_members : RawDomain → Members
domain_members o = put_if (codes "calls") (option_map integers o.calls) (plain_domain o)

abbrev pub domain_data : RawDomain → Data
domain_data o = table (domain_members o)

unfoldable pub entry_members : RawEntry → Members
entry_members e =
    member (codes "domain") (integer e.domain) (member (codes "hart") (integer e.hart)
    (member (codes "length") (integer e.length) (member (codes "pad") (integer e.pad) no_members)))

abbrev pub entry_data : RawEntry → Data
entry_data e = table (entry_members e)

unfoldable pub mailbox_members : RawMailbox → Members
mailbox_members b = member (codes "from") (integer b.from) (member (codes "to") (integer b.to) no_members)

abbrev pub mailbox_data : RawMailbox → Data
mailbox_data b = table (mailbox_members b)

abbrev pub mail_data : List RawMailbox → Data
mail_data bs = array (items_of (map mailbox_data bs))

-- the boxes, if there are any
abbrev pub some_mail : List RawMailbox → Option (List RawMailbox)
some_mail [] = None
some_mail (b ∷ bs) = Some (b ∷ bs)

-- of the second level
abbrev pub level2_of : Raw → Members
level2_of r = level2_members r.l2 r.back

abbrev pub scheduled_members : Raw → Members
scheduled_members r =
    member (codes "predictor") (integer r.predictor)
    (member (codes "schedule") (array (items_of (map entry_data r.schedule)))
    (member (codes "shared") (integer r.shared) (member (codes "tlb") (table (cache_members r.tlb))
    (member (codes "version") (number r.version) no_members))))

abbrev pub machine_members : Raw → Members
machine_members r =
    member (codes "frames") (integer r.frames)
    (member (codes "history") (integer r.history) (member (codes "l1d") (table (cache_members r.l1d))
    (member (codes "l1i") (table (cache_members r.l1i)) (member (codes "l2") (table (level2_of r))
    (member (codes "line") (integer r.line) (scheduled_members r))))))

-- what every image has
abbrev pub plain_members : Raw → Members
plain_members r =
    member (codes "costs") (table (costs_members r.costs))
    (member (codes "domain") (array (items_of (map domain_data r.domains))) (machine_members r))

abbrev pub muldiv_data : RawMuldiv → Data
muldiv_data c = table (muldiv_members c)

unfoldable pub with_targets : Raw → Members
with_targets r = put_if (codes "targets") (option_map integer r.targets) (plain_members r)

unfoldable pub with_muldiv : Raw → Members
with_muldiv r = put_if (codes "muldiv") (option_map muldiv_data r.muldiv) (with_targets r)

unfoldable pub record_members : Raw → Members
record_members r = put_if (codes "mail") (option_map mail_data (some_mail r.mail)) (with_muldiv r)
