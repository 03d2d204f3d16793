-- Why octets are no message, handed on.
use Rattle.std.proofs.Common.{◌≡◌, ℕ, zero, suc, ◌+◌, ◌-◌, ◌<◌, ◌≤◌, inl, inr, List, [], ◌∷◌, length, drop, refl, sym, subst, arith}
use Rattle.dns_records.specs.Fields.{stated_fields}
use Rattle.dns_records.specs.declared.parts.Field.{Field as Part}
use Rattle.dns_wire.specs.declared.ReadError.{ReadError}
use Rattle.dns_wire.specs.Refusals.{NameRefused, TimesRefused}

pub room_left : (m : List ℕ) (e : ReadError) (target size run : ℕ) → NameRefused m e target (254 - (size + run)) → NameRefused m e target (254 - size - run)
room_left m e target size run h = (let same : 254 - (size + run) ≡ 254 - size - run = omega arith in subst (NameRefused m e target) same h)

pub none_left : (parts : List Part) (i : ℕ) → length parts ≤ i → stated_fields (drop i parts) ≡ []
none_left [] zero h = refl
none_left [] (suc i) h = refl
none_left (p ∷ parts) zero h = absurd (omega arith)
none_left (p ∷ parts) (suc i) h = none_left parts i (omega arith)

pub times_here : (One : ℕ → ℕ → Type 0) (Refused : ℕ → ReadError → Type 0) (n at : ℕ) (e : ReadError) → 0 < n → Refused at e → TimesRefused One Refused n at e
times_here One Refused zero at e some h = absurd (omega arith)
times_here One Refused (suc n) at e some h = inl h

pub times_behind : (One : ℕ → ℕ → Type 0) (Refused : ℕ → ReadError → Type 0) (n m at mid : ℕ) (e : ReadError) → n ≡ suc m → One at mid → TimesRefused One Refused m mid e → TimesRefused One Refused n at e
times_behind One Refused n m at mid e same here h = subst (λ (k : ℕ). TimesRefused One Refused k at e) (sym same) (inr (mid, here, h))
