-- What contracts say of any sink.
use Rattle.tp_io.specs.declared.sink.Sink as sink
use Rattle.tp_io.specs.Sends.{SinkState}

-- the state of a sink, by what its type tells: `state K.Sink out.old`
abbrev pub state : {K : Type 0} → sink.Ghosts K → K → SinkState
state by k = record { written = by.written k; faults = by.faults k; sure = by.sure k }
