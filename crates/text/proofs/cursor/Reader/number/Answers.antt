-- Four bytes, or the place of the first bad one.
use Rattle.std.proofs.Common.{◌≡◌, ◌+◌, take, Ok, MatchResult, rules}
use Rattle.std.proofs.lemmas.Result.{MatchResult-at_ok, MatchResult-weaker, err_from_is_err_and}
use Rattle.text.specs.Numbers.{Number}
use Rattle.text.specs.Texts.{Any, Stuck}
use Rattle.text.proofs.Steps.{part-read, number_short, refused-here}
use Rattle.text.proofs.cursor.Reader.number.Goals as goal

pub returns-in_err-n : goal.returns-in_err-n
returns-in_err-n c =
    let s = c.args.self.now.left.now in
    let r = c.field.result in
    let p = err_from_is_err_and c.from_residual.result c.from_residual.ensures.1 in
    let h : MatchResult r (λ t. ⊥) (λ k. c.in_err-n.field-0.0.at ≡ c.args.self.now.at + k) = MatchResult-weaker r c.in_err-n.ensures.cases (λ x q. search rules) (λ k q. search rules) in
    rw (p.1, p.2) (refused-here (Any Number) (λ n. Number n (take 4 s)) c.args.self.now r c.in_err-n.field-0.0.at h c.field.ensures)

pub returns-in_default : goal.returns-in_default
returns-in_default c =
    let s = c.args.self.now.left.now in
    let o : c.field.result ≡ Ok c.in_ok-n.n = search rules in
    absurd (number_short c.in_ok-n.n s (MatchResult-at_ok (λ n. Number n (take 4 s)) (λ k. Stuck (Any Number) s k) c.in_ok-n.n o c.field.ensures) c.in_default.len_below)

pub returns-in-len4-up : goal.returns-in-len4-up
returns-in-len4-up c =
    let s = c.args.self.now.left.now in
    let o : c.field.result ≡ Ok c.in_ok-n.n = search rules in
    part-read (Number c.in_ok-n.n) s 4 c.args.self.now.at c.in-len4-up.len_at_least (MatchResult-at_ok (λ n. Number n (take 4 s)) (λ k. Stuck (Any Number) s k) c.in_ok-n.n o c.field.ensures)
