-- What a read takes from its reader. Assumes nothing.
use mathlib.Core.Path.{◌≡◌, refl, sym, ap, subst, ◌∙◌}
use mathlib.Core.List.{List, [], ◌++◌}
use Prim.Native.Nat.{ℕ, zero, suc, ◌+◌, ◌<◌}
use lib.ListN.{length, take, drop}
use lib.Seq.{drop_at, take_at, take-add, take-append-le}
use Rattle.std.specs.Prelude.{Option, Result, Ok, Err, None, Some}
use Rattle.std.specs.Result.{result_unwrap_or}
use Rattle.std.specs.Io.{ReadsAtMost}
use Rattle.std.specs.Io.KnownBytes.{Consumes, Keeps, ReadConsumes}
use Rattle.blocks.specs.Left.{standing, answer}
use Rattle.blocks.specs.declared.left.Standing.{Standing}
use Rattle.blocks.specs.Known.{Drawn}

pub kept_none : (a b : Option (List ℕ)) → Keeps a b → Consumes a b []
kept_none None b h = tt
kept_none (Some x) None h = absurd h
kept_none (Some x) (Some y) h = sym h

behind : (front part : List ℕ) (n : ℕ) → drop (length front) (take (length front + n) (front ++ part)) ≡ take n part
behind front part n =
    let size : length (take (length front) (front ++ part)) ≡ length front = ap length (take_at front part (length front) refl) in
    ap (drop (length front)) (take-add (length front) n (front ++ part))
    ∙ drop_at (take (length front) (front ++ part)) (take n (drop (length front) (front ++ part))) (length front) size
    ∙ ap (take n) (drop_at front part (length front) refl)

-- `part` is what the read left of the buffer behind the bytes that are held
pub draws : {E : Type 0} (a b : Option (List ℕ)) (r : Result ℕ E) (front part rest : List ℕ) (held n : ℕ) (over : Standing)
    → length front ≡ held → n ≡ result_unwrap_or r 0 → over ≡ standing (answer r) → ReadsAtMost r part → ReadConsumes a b r part → 0 < length part
    → Drawn a b front (record { start = 0; end = held + n; over = over }) (front ++ (part ++ rest))
draws a b (Ok zero) front part rest held n over long counted stands fits reads some =
    rw stands (record { given = reads.0; ended = λ _. reads.1 refl some })
draws a b (Ok (suc k)) front part rest held n over long counted stands fits reads some =
    let read : drop (length front) (take (length front + suc k) (front ++ (part ++ rest))) ≡ take (suc k) part =
    behind front (part ++ rest) (suc k) ∙ take-append-le (suc k) part rest fits.0 in
    rw (← long, counted, stands) (record { given = subst (Consumes a b) (sym read) reads.0; ended = λ h. cc })
draws a b (Err e) front part rest held n over long counted stands fits reads some =
    rw stands (record { given = kept_none a b reads; ended = λ h. cc })
