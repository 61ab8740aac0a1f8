-- No entry names the variable, or the sign of the first that does decides.
use Rattle.std.proofs.Common.{get_or, pos, sym, w32, SFits, rules}
use Rattle.std.proofs.lemmas.Int.{to_z-of_z}
use Rattle.answer.proofs.Signs.{sign-none, sign-some, decided-some}
use Rattle.answer.proofs.list.ListSource.first_sign.Goals as goal

pub returns-in_err-i : goal.returns-in_err-i
returns-in_err-i c =
    let none = c.in_err-i.ensures in
    rw c.from_residual.ensures (record { sign = sym (sign-none c.args.variable c.args.self.now.entries.now none); decided = λ _. none })

pub returns : goal.returns
returns c =
    let xs = c.args.self.now.entries.now in
    let v = c.args.variable in
    let i = c.in_ok-i.i in
    let first = c.in_ok-i.ensures in
    let fit : SFits w32 (get_or xs i (pos 0)) = search rules in
    simp to_z-of_z (record { sign = sym (sign-some v xs i first); decided = λ e. decided-some v xs i e first })
