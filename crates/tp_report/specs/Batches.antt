-- What a call that adds a text to a batch does to a sink and to what is held back from it.
use Rattle.std.specs.Prelude.{◌≡◌, ℕ, List, ◌++◌, Result, MatchResult}
use Rattle.tp_io.specs.declared.sink.Sink as sink
use Rattle.tp_io.specs.Sends.{SinkState, Sent, CutShort}
use Rattle.tp_io.specs.Sink.{state}

-- a sink, and the bytes that are held back from it
pub record Holding : Type 0 where
  pub sink : SinkState
  pub held : List ℕ

-- `holding K.Sink out.old held.old`
abbrev pub holding : {K : Type 0} → sink.Ghosts K → K → List ℕ → Holding
holding by k held = record { sink = state by k; held = held }

-- of what was held and the text, the sink was sent a front without a fault, and the rest is held
pub record Added (old new : Holding) (text : List ℕ) : Type 0 where
  pub front : List ℕ
  pub sent : Sent old.sink new.sink front
  pub rest : old.held ++ text ≡ front ++ new.held

-- the sink was cut short in what was held and the text
pub record CutIn (old new : Holding) (text : List ℕ) : Type 0 where
  pub cut : CutShort old.sink new.sink (old.held ++ text)

-- a call that is to add a text added it, or the sink was cut short where the call failed
abbrev pub Adds : {T E : Type 0} → Holding → Holding → Result T E → List ℕ → Type 0
Adds old new result text = MatchResult result (λ _. Added old new text) (λ _. CutIn old new text)
