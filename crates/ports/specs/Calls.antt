-- The calls on a fake in memory: how many there were, and which of them fail.
use Rattle.std.specs.Prelude.{ℕ, ◌+◌, ◌-◌, ◌^◌, ◌==◌, min, Bool, if◌then◌else◌, List}
use Rattle.std.specs.List.{list_any}
use Rattle.ports.specs.declared.calls.Calls.{Calls}

-- one more, up to the last value of a count
abbrev pub counted : ℕ → ℕ
counted count = min (count + 1) (2 ^ 64 - 1)

-- no call yet, where these numbers are listed as failing
abbrev pub no_calls : List ℕ → Calls
no_calls failing = record { number = 0; faults = 0; failing = failing }

-- the number of the next call, the first being 1
abbrev pub next_call : Calls → ℕ
next_call calls = counted calls.number

-- whether a list of such numbers has that of the next call
abbrev pub lists_next : List ℕ → Calls → Bool
lists_next numbers calls = list_any (λ number. number == next_call calls) numbers

-- whether the next call fails
abbrev pub fails_next : Calls → Bool
fails_next calls = lists_next calls.failing calls

-- the calls after the next one, with its fault where it fails
abbrev pub after_call : Calls → Calls
after_call calls = record { number = next_call calls; faults = if fails_next calls then counted calls.faults else calls.faults; failing = calls.failing }
