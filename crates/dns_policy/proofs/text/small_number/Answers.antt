use Rattle.std.proofs.Common.{arith}
use Rattle.dns_policy.proofs.Decimals.{spelled, one_digit, two_digits, three_digits, ones, tens, hundreds}
use Rattle.dns_policy.proofs.text.small_number.Goals as goal

pub returns-in-48-to-57 : goal.returns-in-48-to-57
returns-in-48-to-57 c = one_digit c.args.text.now (omega arith) (omega arith) (omega arith)

pub returns-in-49-to-57 : goal.returns-in-49-to-57
returns-in-49-to-57 c = two_digits c.args.text.now (omega arith) (omega arith) (omega arith) (omega arith) (omega arith)

pub returns-in-49 : goal.returns-in-49
returns-in-49 c = three_digits c.args.text.now (omega arith) (omega arith) (omega arith) (omega arith) (omega arith) (omega arith)

pub returns-in_default : goal.returns-in_default
returns-in_default c = λ n small same. elim (spelled n _ small same) [ ones a b d ↦ omega arith | tens a b d e f ↦ omega arith | hundreds a b d e f g ↦ omega arith ]

pub returns-in_default-2 : goal.returns-in_default-2
returns-in_default-2 c = λ n small same. elim (spelled n _ small same) [ ones a b d ↦ omega arith | tens a b d e f ↦ omega arith | hundreds a b d e f g ↦ omega arith ]

pub returns-in_default-3 : goal.returns-in_default-3
returns-in_default-3 c = λ n small same. elim (spelled n _ small same) [ ones a b d ↦ omega arith | tens a b d e f ↦ omega arith | hundreds a b d e f g ↦ omega arith ]

pub returns-in_default-4 : goal.returns-in_default-4
returns-in_default-4 c = λ n small same. elim (spelled n _ small same) [ ones a b d ↦ omega arith | tens a b d e f ↦ omega arith | hundreds a b d e f g ↦ omega arith ]

pub returns-in_default-5 : goal.returns-in_default-5
returns-in_default-5 c = λ n small same. elim (spelled n _ small same) [ ones a b d ↦ omega arith | tens a b d e f ↦ omega arith | hundreds a b d e f g ↦ omega arith ]

pub returns-in_default-6 : goal.returns-in_default-6
returns-in_default-6 c = λ n small same. elim (spelled n _ small same) [ ones a b d ↦ omega arith | tens a b d e f ↦ omega arith | hundreds a b d e f g ↦ omega arith ]

pub returns-in_default-7 : goal.returns-in_default-7
returns-in_default-7 c = λ n small same. elim (spelled n _ small same) [ ones a b d ↦ omega arith | tens a b d e f ↦ omega arith | hundreds a b d e f g ↦ omega arith ]

pub returns-in_default-8 : goal.returns-in_default-8
returns-in_default-8 c = λ n small same. elim (spelled n _ small same) [ ones a b d ↦ omega arith | tens a b d e f ↦ omega arith | hundreds a b d e f g ↦ omega arith ]

pub returns-in_default-9 : goal.returns-in_default-9
returns-in_default-9 c = λ n small same. elim (spelled n _ small same) [ ones a b d ↦ omega arith | tens a b d e f ↦ omega arith | hundreds a b d e f g ↦ omega arith ]

pub returns-in_default-10 : goal.returns-in_default-10
returns-in_default-10 c = λ n small same. elim (spelled n _ small same) [ ones a b d ↦ omega arith | tens a b d e f ↦ omega arith | hundreds a b d e f g ↦ omega arith ]

pub returns-in_default-11 : goal.returns-in_default-11
returns-in_default-11 c = λ n small same. elim (spelled n _ small same) [ ones a b d ↦ omega arith | tens a b d e f ↦ omega arith | hundreds a b d e f g ↦ omega arith ]

pub returns-in_default-12 : goal.returns-in_default-12
returns-in_default-12 c = λ n small same. elim (spelled n _ small same) [ ones a b d ↦ omega arith | tens a b d e f ↦ omega arith | hundreds a b d e f g ↦ omega arith ]

pub returns-in_default-13 : goal.returns-in_default-13
returns-in_default-13 c = λ n small same. elim (spelled n _ small same) [ ones a b d ↦ omega arith | tens a b d e f ↦ omega arith | hundreds a b d e f g ↦ omega arith ]
