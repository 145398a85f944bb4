use Rattle.std.proofs.Common.{◌≡◌, ◌≤◌, ◌<◌, ℕ, ◌+◌, ◌-◌, min, List, [], ◌++◌, arith, length, take, drop, sym, ap, ◌∙◌, take-append-drop, drop_of_length-le, rules}
use Rattle.std.proofs.lemmas.List.{length-append, length-drop, length-take, drop-drop, take_at, take_rest}
use Rattle.ports.proofs.memory_source.SureSourceSource.read.Goals as goal

-- n items go from the front of what is left, which is all where n is 0 and there is room
moved : (all copied buf : List ℕ) (at n : ℕ) → at ≤ length all → n ≡ min (length (drop at all)) (length buf) → copied ≡ take n (drop at all)
    → (drop at all ≡ take n (copied ++ drop n buf) ++ drop (at + n) all) × (n ≡ 0 → 0 < length (copied ++ drop n buf) → drop (at + n) all ≡ [])
moved all copied buf at n le is same =
    let size : length copied ≡ n = omega (arith, ap length same, length-take n (drop at all)) in (
      rw (take_at copied (drop n buf) n size, same, ← drop-drop n at all) (sym (take-append-drop n (drop at all))),
      λ zero room. drop_of_length-le all (omega (arith, length-append copied (drop n buf), length-drop n buf, length-drop at all)),
    )

pub returns-clause-bytes : goal.returns-clause-bytes
returns-clause-bytes c =
    let all : List ℕ = c.self.inside.bytes in
    let at : ℕ = c.self.inside.at in
    let left : take (length all - at) (drop at all) ≡ drop at all = take_rest all at in
    let n_is : c.min-count.result ≡ min (length (drop at all)) (length c.args.buf.now) = rw (← left) (rw (← c.as_slice.ensures) c.min-count.ensures) in
    let all_moved = moved all _ c.args.buf.now at _ c.self.invariant n_is (search rules) in (sym c.self.view_is ∙ all_moved.0, all_moved.1)
