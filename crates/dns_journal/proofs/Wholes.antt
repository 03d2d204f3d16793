-- Two lists of writes, one made after the other.
use Rattle.std.proofs.Common.{inl, inr, List, [], ◌∷◌, ◌++◌, subst}
use Rattle.std.specs.Prelude.{slice_set}
use Rattle.dns_sectors.specs.Device.{Content}
use Rattle.dns_sectors.specs.Crash.{Write, SomeApplied, CrashOf}
use Rattle.dns_sectors.proofs.Phases.{some_front}

pub some_append : (xs ys : List Write) (d e c : Content) → SomeApplied xs d e → SomeApplied ys e c → SomeApplied (xs ++ ys) d c
some_append [] ys d e c is rest = subst (λ (z : Content). SomeApplied ys z c) is rest
some_append (x ∷ xs) ys d e c (inl not) rest = inl (some_append xs ys d e c not rest)
some_append (x ∷ xs) ys d e c (inr is) rest = inr (some_append xs ys (slice_set d x.0 x.1) e c is rest)

-- some of the first alone
pub crash_front : (old : Content → Type 0) (xs ys : List Write) (c : Content) → CrashOf old xs c → CrashOf old (xs ++ ys) c
crash_front old xs ys c left = (left.0, left.1, some_front xs ys left.0 c left.2)

-- some of the second, over some of the first
pub crash_on : (old mid : Content → Type 0) (xs ys : List Write) → ((c : Content) → mid c → CrashOf old xs c) → (c : Content) → CrashOf mid ys c → CrashOf old (xs ++ ys) c
crash_on old mid xs ys before c left = (let first = before left.0 left.1 in (first.0, first.1, some_append xs ys first.0 left.0 c first.2 left.2))
