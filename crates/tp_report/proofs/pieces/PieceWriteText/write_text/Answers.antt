-- Each piece is written by a call of its own.
use Rattle.tp_report.proofs.pieces.PieceWriteText.write_text.Goals as goal

pub returns-in-Text : goal.returns-in-Text
returns-in-Text g c = rw c.in-Text.is (record { adds = rw c.as_bytes.ensures.value at c.add.ensures.adds })

pub returns-in-Number : goal.returns-in-Number
returns-in-Number g c = rw c.in-Number.is (record { adds = c.write_number.ensures.adds })

pub returns-in-Hex : goal.returns-in-Hex
returns-in-Hex g c = rw c.in-Hex.is (record { adds = c.write_word.ensures.adds })

pub returns-in-Status : goal.returns-in-Status
returns-in-Status g c = rw c.in-Status.is (record { adds = c.write_status.ensures.adds })

pub returns-in-State : goal.returns-in-State
returns-in-State g c = rw c.in-State.is (record { adds = c.write_state.ensures.adds })

pub returns-in-Registers : goal.returns-in-Registers
returns-in-Registers g c = rw c.in-Registers.is (record { adds = c.write_registers.ensures.adds })

pub returns-in-Readings : goal.returns-in-Readings
returns-in-Readings g c = rw c.in-Readings.is (record { adds = c.write_log.ensures.adds })

pub returns-in-Replies : goal.returns-in-Replies
returns-in-Replies g c = rw c.in-Replies.is (record { adds = c.write_log-in-Replies.ensures.adds })

pub returns-in-Bytes : goal.returns-in-Bytes
returns-in-Bytes g c = rw c.in-Bytes.is (record { adds = c.write_bytes.ensures.adds })
