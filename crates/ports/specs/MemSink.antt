-- What a sink in memory takes of each piece.
use Rattle.std.specs.Prelude.{ℕ, ◌-◌, ◌==◌, ◌&&◌, nat_lt, min, if◌then◌else◌, List, [], ◌++◌, length, take}
use Rattle.ports.specs.Calls.{counted, no_calls, lists_next, fails_next, after_call}
use Rattle.ports.specs.declared.calls.Calls.{Calls}

-- a sink in memory, as its contracts see it
pub record SinkState : Type 0 where
  pub held : List ℕ
  pub room : ℕ
  pub calls : Calls
  pub stalling : List ℕ
  pub stalls : ℕ

-- an empty sink of that room
abbrev pub empty_sink : ℕ → List ℕ → List ℕ → SinkState
empty_sink room failing stalling = record { held = []; room = room; calls = no_calls failing; stalling = stalling; stalls = 0 }

-- how many bytes a write takes of a piece, if it doesn't fail: as many as there is room for, or none where its number is listed
abbrev pub taken : SinkState → List ℕ → ℕ
taken sink piece = if lists_next sink.stalling sink.calls then 0 else min (sink.room - length sink.held) (length piece)

-- the stalls after such a write
abbrev pub stalls_after : SinkState → List ℕ → ℕ
stalls_after sink piece = if taken sink piece == 0 && nat_lt 0 (length piece) then counted sink.stalls else sink.stalls

-- the sink after a write
abbrev pub after_write : SinkState → List ℕ → SinkState
after_write sink piece =
    if fails_next sink.calls then record sink { calls = after_call sink.calls }
    else record sink { held = sink.held ++ take (taken sink piece) piece; calls = after_call sink.calls; stalls = stalls_after sink piece }
