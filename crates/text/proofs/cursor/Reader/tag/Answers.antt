-- Two bytes, or the place of the first bad one.
use Rattle.std.proofs.Common.{◌≡◌, ◌+◌, ◌≤◌, length, take, Ok, MatchResult, rules, sym, ◌∙◌, subst, arith}
use Rattle.std.proofs.lemmas.Result.{MatchResult-weaker, err_from_is_err_and}
use Rattle.text.specs.Tags.{TagAt, rank_in}
use Rattle.text.specs.Texts.{Any}
use Rattle.text.proofs.Letters.{TagLaw, tag-law}
use Rattle.text.proofs.Steps.{part-read, refused-here, tag-ok}
use Rattle.text.proofs.cursor.Reader.tag.Goals as goal

pub returns-in_err-tag : goal.returns-in_err-tag
returns-in_err-tag c =
    let f = rank_in c.args.last in
    let s = c.args.self.now.left.now in
    let r = c.leading_tag.result in
    let p = err_from_is_err_and c.from_residual.result c.from_residual.ensures.1 in
    let h : MatchResult r (λ t. ⊥) (λ k. c.in_err-tag.field-0.0.at ≡ c.args.self.now.at + k) = MatchResult-weaker r c.in_err-tag.ensures.cases (λ x q. search rules) (λ k q. search rules) in
    rw (p.1, p.2) (refused-here (Any (TagAt f)) (λ t. (2 ≤ length s) × TagAt f t (take 2 s)) c.args.self.now r c.in_err-tag.field-0.0.at h (subst (TagLaw f s) (sym c.leading_tag.ensures.tag) (tag-law f s)))

pub returns-in_default : goal.returns-in_default
returns-in_default c =
    let o : c.leading_tag.result ≡ Ok c.in_ok-tag.tag = search rules in
    let h = tag-ok (rank_in c.args.last) c.args.self.now.left.now c.in_ok-tag.tag (sym o ∙ c.leading_tag.ensures.tag) in
    absurd (omega (arith, h.0, c.in_default.len_below))

pub returns-in-len2-up : goal.returns-in-len2-up
returns-in-len2-up c =
    let s = c.args.self.now.left.now in
    let o : c.leading_tag.result ≡ Ok c.in_ok-tag.tag = search rules in
    let h = tag-ok (rank_in c.args.last) s c.in_ok-tag.tag (sym o ∙ c.leading_tag.ensures.tag) in
    part-read (TagAt (rank_in c.args.last) c.in_ok-tag.tag) s 2 c.args.self.now.at h.0 h.1
