-- What the calls of a file do, and what a crash may leave of it.
use Rattle.std.specs.Prelude.{◌≡◌, ◌⊎◌, ℕ, ◌≤◌, List}

-- what a file may hold
abbrev pub Octets : Type 0
Octets = List ℕ

-- the change is there whole, or it isn't there
abbrev pub MayChange : (Octets → Octets) → Octets → Octets → Type 0
MayChange change old new = (new ≡ old) ⊎ (new ≡ change old)

-- each new outcome of a crash is an old outcome, with the change or without it
abbrev pub FollowsBy : (Octets → Octets) → (Octets → Type 0) → (Octets → Type 0) → Type 0
FollowsBy change old new = (c : Octets) → new c → (d : Octets) × old d × MayChange change d c

-- each outcome is one that there was before
abbrev pub NoMoreOctets : (Octets → Type 0) → (Octets → Type 0) → Type 0
NoMoreOctets old new = (c : Octets) → new c → old c

-- a crash leaves this and nothing else
abbrev pub OnlyOctets : Octets → (Octets → Type 0) → Type 0
OnlyOctets octets outcomes = (c : Octets) → outcomes c → c ≡ octets

-- Time goes on: a crash since t might have left what it might have left before, or what it may leave now.
pub record Passes (before now : ℕ) (past since : ℕ → Octets → Type 0)
    (may_leave : Octets → Type 0) : Type 0 where
  pub later : before ≤ now
  pub nothing_else : (t : ℕ) (c : Octets) → t ≤ before → since t c → past t c ⊎ may_leave c
  pub keeps : (t : ℕ) (c : Octets) → t ≤ before → past t c → since t c
