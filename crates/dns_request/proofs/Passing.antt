-- Octets that pass the tests before they are read.
use Rattle.std.proofs.Common.{◌≡◌, ℕ, Bool, true, false, ◌||◌, refl, sym, ap, arith}
use Rattle.std.specs.Prelude.{◌≢◌, ◌==◌, not, Option, Some, None, IfSome, IfNone, is_some, if◌then◌else◌}
use Rattle.std.proofs.lemmas.Bool.Decides.{nat_tests}
use Rattle.dns_wire.specs.Message.{Message}
use Rattle.dns_wire.specs.Codes.{number_of_opcode}
use Rattle.dns_wire.specs.declared.codes.Opcode.{Opcode}
use Rattle.dns_wire.specs.declared.codes.Opcode.TheVariants.{Query, Update}
use Rattle.dns_request.specs.Request as request
use Rattle.dns_request.specs.Request.{Request, read_as}

-- a kind that is served, and one that is not
pub kind_served : (o : Option Opcode) (n : ℕ) → IfSome o (λ k. number_of_opcode k ≡ n) → is_some o ≡ true → (n == 0 || n == 5) ≡ true
kind_served None n found e = cc
kind_served (Some Query) n found e = ap (λ (k : ℕ). k == 0 || k == 5) (sym found)
kind_served (Some Update) n found e = ap (λ (k : ℕ). k == 0 || k == 5) (sym found)

is_kind : (n : ℕ) (zero_is five_is : Bool) → (n == 0) ≡ zero_is → (n == 5) ≡ five_is → 0 ≢ n → 5 ≢ n → (zero_is || five_is) ≡ false
is_kind n true five_is e f zero' five' = (let is : n ≡ 0 = grind (arith, nat_tests, e) in absurd (zero' (sym is)))
is_kind n false true e f zero' five' = (let is : n ≡ 5 = grind (arith, nat_tests, f) in absurd (five' (sym is)))
is_kind n false false e f zero' five' = refl

pub kind_not_served : (o : Option Opcode) (n : ℕ) → IfNone o ((k : Opcode) → number_of_opcode k ≢ n) → is_some o ≡ false → (n == 0 || n == 5) ≡ false
kind_not_served None n none e = is_kind n (n == 0) (n == 5) refl refl (none Query) (none Update)
kind_not_served (Some k) n none e = absurd cc

-- the tests in their order
abbrev pub tested : Bool → Bool → Bool → Option Message → Request
tested ignored served long read =
    if ignored then request.Ignored
    else if not served then request.Refused 4
    else if long then request.Refused 1
    else read_as read

pub not_served : (ignored served long : Bool) (read : Option Message) → ignored ≡ false → served ≡ false → tested ignored served long read ≡ request.Refused 4
not_served ignored served long read i s = λ k. tested (i k) (s k) long read

pub is_read : (ignored served long : Bool) (read : Option Message) → ignored ≡ false → served ≡ true → long ≡ false → tested ignored served long read ≡ read_as read
is_read ignored served long read i s l = λ k. tested (i k) (s k) (l k) read

-- what is no message
pub none_read : (o : Option Message) → ((m : Message) → o ≡ Some m → ⊥) → o ≡ None
none_read None h = refl
none_read (Some m) h = absurd (h m refl)
