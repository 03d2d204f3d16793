use Rattle.std.proofs.Common.{◌≡◌, ◌++◌, ℕ, List, length, ap, ◌∙◌, append_assoc}
use Rattle.dns_wire.specs.Compress.{pointer}
use Rattle.dns_wire.specs.OneSoa.{soa_data, soa_head}
use Rattle.dns_wire.proofs.Exits.{on_ok}
use Rattle.dns_wire.proofs.OneSoa.{data_size}
use Rattle.dns_wire.proofs.octets.Octets.put_soa.Goals as goal

-- one part after the other
regroup : (old head first pointed second numbers : List ℕ) → (((((old ++ head) ++ first) ++ pointed) ++ second) ++ pointed) ++ numbers ≡ old ++ (head ++ ((first ++ pointed) ++ ((second ++ pointed) ++ numbers)))
regroup old head first pointed second numbers = simp append_assoc

pub returns : goal.returns
returns c =
    let parts = c.args.parts.now in
    let old = c.args.self.now.items in
    let first = parts.first.now in
    let second = parts.second.now in
    let numbers = parts.numbers.now in
    let pointed = pointer parts.offset in
    let head = soa_head parts.offset c.args.ttl (length (soa_data parts.offset first second numbers)) in
    let headed : c.soa_head.result ≡ head = c.soa_head.ensures ∙ ap (soa_head parts.offset c.args.ttl) (data_size first second numbers parts.offset c.requires.numbers) in
    let one : c.put.new.self.items ≡ old ++ head = c.in_ok-put.ensures ∙ ap (λ (xs : List ℕ). old ++ xs) headed in
    let two : c.put-2.new.self.items ≡ (old ++ head) ++ first = c.in_ok-put-2.ensures ∙ ap (λ (xs : List ℕ). xs ++ first) one in
    let three : c.put-3.new.self.items ≡ ((old ++ head) ++ first) ++ pointed = c.in_ok-put-3.ensures ∙ (λ i. two i ++ c.pointer-pointed.ensures i) in
    let four : c.put-4.new.self.items ≡ (((old ++ head) ++ first) ++ pointed) ++ second = c.in_ok-put-4.ensures ∙ ap (λ (xs : List ℕ). xs ++ second) three in
    let five : c.put-5.new.self.items ≡ ((((old ++ head) ++ first) ++ pointed) ++ second) ++ pointed = c.in_ok-put-5.ensures ∙ (λ i. four i ++ c.pointer-pointed.ensures i) in
    on_ok c.put-6.result (c.put-6.new.self.items ≡ c.put-5.new.self.items ++ numbers) (c.put-6.new.self.items ≡ old ++ (head ++ soa_data parts.offset first second numbers)) c.put-6.ensures
    (λ six. six ∙ ap (λ (xs : List ℕ). xs ++ numbers) five ∙ regroup old head first pointed second numbers)
