-- Texts that are longer than what there is room for in a batch.
use Rattle.std.proofs.Common.{◌≡◌, ℕ, ◌+◌, List, [], ◌++◌, take, drop, sym, ap, ◌∙◌, subst}
use Rattle.std.proofs.lemmas.List.{take-append-drop}
use Rattle.std.proofs.Math.Seq.{take-add}
use Rattle.tp_io.specs.Sends.{SinkState, Sent, CutShort}
use Rattle.tp_report.specs.Batches.{Holding, Added, CutIn}
use Rattle.tp_report.proofs.Batches.{added_more, added_sent, cut_between}

-- the text of which i bytes were added, the n that fill the batch, and those after them
module _ (text : List ℕ) (i n : ℕ) (old : Holding) (a b : SinkState) (held full left : List ℕ) where
  -- the full batch was handed on
  pub full_sent : (j : ℕ) → i + n ≡ j → Added old (record { sink = a; held = held }) (take i text)
      → full ≡ held ++ take n (drop i text) → left ≡ []
      → Sent a b full → Added old (record { sink = b; held = left }) (take j text)
  full_sent j next so_far filled empty sent =
      let whole : take i text ++ take n (drop i text) ≡ take j text = sym (take-add i n text) ∙ ap (λ k. take k text) next in
      rw empty (subst (Added old (record { sink = b; held = [] })) whole
      (added_more old (record { sink = a; held = held }) (record { sink = b; held = [] }) (take i text)
      (take n (drop i text)) so_far
      (added_sent a b held (take n (drop i text)) (subst (Sent a b) filled sent))))

  -- the sink was cut short in the full batch
  pub full_cut : Added old (record { sink = a; held = held }) (take i text)
      → full ≡ held ++ take n (drop i text)
      → CutShort a b full → CutIn old (record { sink = b; held = left }) text
  full_cut so_far filled cut =
      let whole : take i text ++ (take n (drop i text) ++ drop n (drop i text)) ≡ text =
      ap (λ ys. take i text ++ ys) (take-append-drop n (drop i text)) ∙ take-append-drop i text in
      subst (CutIn old (record { sink = b; held = left })) whole
      (cut_between old (record { sink = a; held = held }) (record { sink = b; held = left }) (take i text)
      (take n (drop i text)) (drop n (drop i text)) so_far
      (record { cut = subst (CutShort a b) filled cut }))
