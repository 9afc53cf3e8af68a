-- What stands at each key of what is written.
use Rattle.std.proofs.Common.{◌≡◌, ℕ, ℤ, false, List, map, codes, Option, Some, None, option_map, refl, ◌∙◌}
use Rattle.toml.specs.Data.{string, integer, array, table, Members, get_member, same_key}
use Rattle.toml.specs.View.{items_of}
use Rattle.image_record.specs.Record.{Raw, RawMuldiv, RawDomain}
use Rattle.image_writing.specs.Data.{number, integers, texts, put_if, cache_members, costs_members, level2_of, segment_data, moment_data, domain_data, entry_data, muldiv_data, mail_data, some_mail, plain_domain, domain_members, plain_members, with_targets, with_muldiv, record_members}
use Rattle.image_writing.proofs.Inserts.{if_other, if_there}

-- ---- a domain

pub record DomainLooks (t : Members) (o : RawDomain) : Type 0 where
  pub caps : get_member (codes "caps") t ≡ Some (texts o.caps)
  pub colours : get_member (codes "colours") t ≡ Some (integers o.colours)
  pub entry : get_member (codes "entry") t ≡ Some (number o.entry)
  pub lines : get_member (codes "lines") t ≡ Some (integers o.lines)
  pub moments : get_member (codes "moments") t ≡ Some (array (items_of (map moment_data o.moments)))
  pub name : get_member (codes "name") t ≡ Some (string o.name)
  pub segment : get_member (codes "segment") t ≡ Some (array (items_of (map segment_data o.segments)))
  pub calls : get_member (codes "calls") t ≡ option_map integers o.calls

calls_here : (c : Option (List ℤ)) (o : RawDomain)
    → get_member (codes "calls") (put_if (codes "calls") (option_map integers c) (plain_domain o))
    ≡ option_map integers c
calls_here None o = refl
calls_here (Some zs) o = refl

pub domain_looks : (o : RawDomain) → DomainLooks (domain_members o) o
unfolding domain_members
domain_looks o =
    let calls = option_map integers o.calls in
    record {
      caps = if_other (codes "caps") (codes "calls") refl calls (plain_domain o);
      colours = if_other (codes "colours") (codes "calls") refl calls (plain_domain o);
      entry = if_other (codes "entry") (codes "calls") refl calls (plain_domain o);
      lines = if_other (codes "lines") (codes "calls") refl calls (plain_domain o);
      moments = if_other (codes "moments") (codes "calls") refl calls (plain_domain o);
      name = if_other (codes "name") (codes "calls") refl calls (plain_domain o);
      segment = if_other (codes "segment") (codes "calls") refl calls (plain_domain o);
      calls = calls_here o.calls o;
    }

-- ---- the image

pub record Looks (t : Members) (r : Raw) : Type 0 where
  pub costs : get_member (codes "costs") t ≡ Some (table (costs_members r.costs))
  pub domain : get_member (codes "domain") t ≡ Some (array (items_of (map domain_data r.domains)))
  pub frames : get_member (codes "frames") t ≡ Some (integer r.frames)
  pub history : get_member (codes "history") t ≡ Some (integer r.history)
  pub l1d : get_member (codes "l1d") t ≡ Some (table (cache_members r.l1d))
  pub l1i : get_member (codes "l1i") t ≡ Some (table (cache_members r.l1i))
  pub l2 : get_member (codes "l2") t ≡ Some (table (level2_of r))
  pub line : get_member (codes "line") t ≡ Some (integer r.line)
  pub mail : get_member (codes "mail") t ≡ option_map mail_data (some_mail r.mail)
  pub muldiv : get_member (codes "muldiv") t ≡ option_map muldiv_data r.muldiv
  pub predictor : get_member (codes "predictor") t ≡ Some (integer r.predictor)
  pub schedule : get_member (codes "schedule") t ≡ Some (array (items_of (map entry_data r.schedule)))
  pub shared : get_member (codes "shared") t ≡ Some (integer r.shared)
  pub targets : get_member (codes "targets") t ≡ option_map integer r.targets
  pub tlb : get_member (codes "tlb") t ≡ Some (table (cache_members r.tlb))
  pub version : get_member (codes "version") t ≡ Some (number r.version)

module _ (r : Raw) where
  past_mail : (key : List ℕ) → same_key key (codes "mail") ≡ false
      → get_member key (record_members r) ≡ get_member key (with_muldiv r)
  unfolding record_members
  past_mail key other = if_other key (codes "mail") other (option_map mail_data (some_mail r.mail)) (with_muldiv r)

  past_machine : (key : List ℕ) → same_key key (codes "muldiv") ≡ false → same_key key (codes "targets") ≡ false
      → get_member key (with_muldiv r) ≡ get_member key (plain_members r)
  unfolding with_muldiv with_targets
  past_machine key other another =
      if_other key (codes "muldiv") other (option_map muldiv_data r.muldiv)
      (put_if (codes "targets") (option_map integer r.targets) (plain_members r))
      ∙ if_other key (codes "targets") another (option_map integer r.targets) (plain_members r)

  -- a key that no image may leave out
  past : (key : List ℕ) → same_key key (codes "mail") ≡ false → same_key key (codes "muldiv") ≡ false
      → same_key key (codes "targets") ≡ false
      → get_member key (record_members r) ≡ get_member key (plain_members r)
  past key first second third = past_mail key first ∙ past_machine key second third

  targets_here : (x : Option ℤ)
      → get_member (codes "targets") (put_if (codes "targets") (option_map integer x) (plain_members r))
      ≡ option_map integer x
  targets_here None = refl
  targets_here (Some z) = refl

  muldiv_here : (c : Option RawMuldiv) (x : Option ℤ)
      → get_member (codes "muldiv")
      (put_if (codes "muldiv") (option_map muldiv_data c) (put_if (codes "targets") (option_map integer x) (plain_members r)))
      ≡ option_map muldiv_data c
  muldiv_here None None = refl
  muldiv_here None (Some z) = refl
  muldiv_here (Some c) None = refl
  muldiv_here (Some c) (Some z) = refl

  pub looks : Looks (record_members r) r
  unfolding record_members with_muldiv with_targets
  looks = record {
    costs = past (codes "costs") refl refl refl;
    domain = past (codes "domain") refl refl refl;
    frames = past (codes "frames") refl refl refl;
    history = past (codes "history") refl refl refl;
    l1d = past (codes "l1d") refl refl refl;
    l1i = past (codes "l1i") refl refl refl;
    l2 = past (codes "l2") refl refl refl;
    line = past (codes "line") refl refl refl;
    mail =
        if_there (codes "mail") refl (option_map mail_data (some_mail r.mail)) (with_muldiv r)
        (past_machine (codes "mail") refl refl);
    muldiv = past_mail (codes "muldiv") refl ∙ muldiv_here r.muldiv r.targets;
    predictor = past (codes "predictor") refl refl refl;
    schedule = past (codes "schedule") refl refl refl;
    shared = past (codes "shared") refl refl refl;
    targets =
        past_mail (codes "targets") refl
        ∙ if_other (codes "targets") (codes "muldiv") refl (option_map muldiv_data r.muldiv)
        (put_if (codes "targets") (option_map integer r.targets) (plain_members r))
        ∙ targets_here r.targets;
    tlb = past (codes "tlb") refl refl refl;
    version = past (codes "version") refl refl refl;
  }
