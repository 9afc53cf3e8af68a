use Rattle.std.proofs.Common.{◌≡◌, rules, true, false, pos, to_z, of_z, w64, sym, ap, ◌∙◌}
use Rattle.image_record.specs.Parts.{entry_model}
use Rattle.image_record.specs.Cases.{outside}
use Rattle.schedule_check.specs.Schedule.{is_number}
use Rattle.schedule_check.proofs.Told.{told}
use Rattle.schedule_check.proofs.EntryCases.{strange_case, unlasting_case, padded_case}
use Rattle.schedule_check.proofs.schedule.entry_case.Goals as goal

pub returns-then-not-is_number : goal.returns-then-not-is_number
returns-then-not-is_number c =
    let e = entry_model c.args.text.now in
    let domain : to_z w64 (of_z w64 e.domain) ≡ e.domain = search rules in
    let strange : is_number c.args.domains e.domain ≡ false =
    ap (is_number c.args.domains) (sym domain) ∙ sym c.if-not-is_number.ensures.value in
    record {
      verdict =
          strange_case c.args.domains c.args.place e strange
          ∙ told 16 c.args.place e.domain _ (pos 2) c.refusal.result c.requires.place domain c.refusal.ensures.value;
    }

pub returns-then-outside : goal.returns-then-outside
returns-then-outside c =
    let e = entry_model c.args.text.now in
    let domain : to_z w64 (of_z w64 e.domain) ≡ e.domain = search rules in
    let length : to_z w64 (of_z w64 e.length) ≡ e.length = search rules in
    let there : is_number c.args.domains e.domain ≡ true =
    ap (is_number c.args.domains) (sym domain) ∙ sym c.if-not-is_number.ensures.value in
    let out : outside (pos 1000) (pos 1000000) e.length ≡ true =
    ap (outside (pos 1000) (pos 1000000)) (sym length) ∙ sym c.if-outside.ensures.value in
    record {
      verdict =
          unlasting_case c.args.domains c.args.place e there out
          ∙ told 16 c.args.place e.length _ (pos 3) c.refusal-then-outside.result c.requires.place length
          c.refusal-then-outside.ensures.value;
    }

pub returns-then-outside-2 : goal.returns-then-outside-2
returns-then-outside-2 c =
    let e = entry_model c.args.text.now in
    let domain : to_z w64 (of_z w64 e.domain) ≡ e.domain = search rules in
    let length : to_z w64 (of_z w64 e.length) ≡ e.length = search rules in
    let pad : to_z w64 (of_z w64 e.pad) ≡ e.pad = search rules in
    let there : is_number c.args.domains e.domain ≡ true =
    ap (is_number c.args.domains) (sym domain) ∙ sym c.if-not-is_number.ensures.value in
    let long : outside (pos 1000) (pos 1000000) e.length ≡ false =
    ap (outside (pos 1000) (pos 1000000)) (sym length) ∙ sym c.if-outside.ensures.value in
    let out : outside (pos 0) (pos 1000000) e.pad ≡ true =
    ap (outside (pos 0) (pos 1000000)) (sym pad) ∙ sym c.if-outside-2.ensures.value in
    record {
      verdict =
          padded_case c.args.domains c.args.place e true there long out
          ∙ told 16 c.args.place e.pad _ (pos 4) c.refusal-then-outside-2.result c.requires.place pad
          c.refusal-then-outside-2.ensures.value;
    }

pub returns : goal.returns
returns c =
    let e = entry_model c.args.text.now in
    let domain : to_z w64 (of_z w64 e.domain) ≡ e.domain = search rules in
    let length : to_z w64 (of_z w64 e.length) ≡ e.length = search rules in
    let pad : to_z w64 (of_z w64 e.pad) ≡ e.pad = search rules in
    let there : is_number c.args.domains e.domain ≡ true =
    ap (is_number c.args.domains) (sym domain) ∙ sym c.if-not-is_number.ensures.value in
    let long : outside (pos 1000) (pos 1000000) e.length ≡ false =
    ap (outside (pos 1000) (pos 1000000)) (sym length) ∙ sym c.if-outside.ensures.value in
    let within : outside (pos 0) (pos 1000000) e.pad ≡ false =
    ap (outside (pos 0) (pos 1000000)) (sym pad) ∙ sym c.if-outside-2.ensures.value in
    record { verdict = padded_case c.args.domains c.args.place e false there long within }
