-- The state after an event.
-- Assumes nothing.
use Rattle.std.proofs.Common.{◌≡◌, ℕ, ◌<◌, Bool, cond, not, ◌&&◌, ◌||◌, eqb, ltb, ap, ◌∙◌, ap₂, arith}
use mathlib.Core.Path.{fun_ext}
use Rattle.std.proofs.lemmas.Bool.{lt-ltb}
use Rattle.encoding.specs.Plans.{after}
use Rattle.encoding.specs.Tables.{owner, starts}
use Rattle.table.specs.declared.marks.Marks.{Marks}
use Rattle.table.specs.declared.roles.Role.{Role}
use Rattle.table.specs.declared.roles.Role.TheVariants.{StartAdds, StartDeletes, EndAdds, EndDeletes}
use Rattle.table.specs.Entries.{Entries}
use Rattle.table.specs.Memory.{marked}
use Rattle.table.specs.Model.{entries_of}
use Rattle.std.proofs.Math.Bool.{and-true}
use Rattle.table.proofs.rows.Table.run.Goals as goal

small : (e : ℕ) → e < 33 → owner e < 17
unfolding owner
small e h = omega arith

row_of : (E : Entries) (m : Marks 33) (r s : Role) (a b : ℕ) → ((p : ℕ) → marked m p ≡ E.noted r a p) → r ≡ s → a ≡ b → (p : ℕ) → marked m p ≡ E.noted s b p
row_of E m r s a b h u v p = h p ∙ ap₂ (λ (x : Role) y. E.noted x y p) u v

opened : (m before : Marks 17) (e o : ℕ) (s : Bool) → ((i : ℕ) → marked m i ≡ cond (eqb i o && ltb o 17) s (marked before i)) → o ≡ owner e → s ≡ starts e → owner e < 17
    → (i : ℕ) → marked m i ≡ cond (eqb i (owner e)) (starts e) (marked before i)
opened m before e o s h u v l i =
    h i ∙ ap₂ (λ x y. cond (eqb i x && ltb x 17) y (marked before i)) u v
    ∙ ap (λ b. cond (eqb i (owner e) && b) (starts e) (marked before i)) (lt-ltb (owner e) 17 l)
    ∙ ap (λ b. cond b (starts e) (marked before i)) (and-true (eqb i (owner e)))

pub returns : goal.returns
unfolding after
returns c =
    let E = entries_of c.args.self.now in
    let e = c.args.event in
    ap₂ (λ (h o : ℕ → Bool). record { holds = h; is_open = o })
    (fun_ext (λ p. c.changed.ensures p ∙ ap₂ (λ x y. x || (marked c.args.state.facts p && not y))
    (row_of E c.facts_of-added.result c.by_kind.result (cond (starts e) StartAdds EndAdds) c.owner-action.result (owner e) c.facts_of-added.ensures c.by_kind.ensures c.owner-action.ensures p)
    (row_of E c.facts_of-deleted.result c.by_kind-2.result (cond (starts e) StartDeletes EndDeletes) c.owner-action.result (owner e) c.facts_of-deleted.ensures c.by_kind-2.ensures c.owner-action.ensures p)))
    (fun_ext (opened c.put.new.self c.args.state.«open» e c.owner-action.result c.starts.result c.put.ensures c.owner-action.ensures c.starts.ensures (small e (omega arith))))
