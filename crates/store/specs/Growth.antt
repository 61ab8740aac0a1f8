-- How a store may change: the relation between a store before and after.
-- Each kind of store has one of its own, reflexive and transitive, which `put` promises. Code over every kind only composes it.
-- Who made the store knows what it says: for a store over lent memory, that the memory is still the same lent one and that
-- everything beyond the used part is as it was. Assumes nothing.
use Rattle.std.proofs.Common.{arith, sym, ◌∙◌, ap}
use Rattle.std.specs.Prelude.{◌≡◌, ℕ, ◌+◌, ◌-◌, ◌≤◌, List, ◌++◌, length, drop, refl}
use Rattle.std.proofs.lemmas.List.{drop-drop}

pub record Growth {X : Type 0} (grew : X → X → Type 0) : Type 0 where
  pub none : (s : X) → grew s s
  pub more : (s t u : X) → grew s t → grew t u → grew s u

-- A store over lent memory: who lent it, what the memory holds, and how much of it is used
pub record Grown {X E N : Type 0} (lender : X → N) (memory : X → List E) (used : X → ℕ) (s t : X) : Type 0 where
  pub same_lender : lender t ≡ lender s
  pub same_length : length (memory t) ≡ length (memory s)
  pub used_more : used s ≤ used t
  pub beyond : drop (used t) (memory t) ≡ drop (used t) (memory s)

-- Memory with a new front, and the rest as it was
abbrev pub over : {E : Type 0} → List E → List E → List E
over front memory = front ++ drop (length front) memory

-- what is the same from m on is the same from n on
drop-further : {E : Type 0} (m n : ℕ) (xs ys : List E) → m ≤ n → drop m xs ≡ drop m ys → drop n xs ≡ drop n ys
drop-further m n xs ys h e =
    let k : m + (n - m) ≡ n = omega arith in
    ap (λ t. drop t xs) (sym k) ∙ sym (drop-drop (n - m) m xs) ∙ ap (drop (n - m)) e ∙ drop-drop (n - m) m ys ∙ ap (λ t. drop t ys) k

pub grown-growth : {X E N : Type 0} (lender : X → N) (memory : X → List E) (used : X → ℕ) → Growth (Grown lender memory used)
grown-growth lender memory used = record {
  none = λ s. record { same_lender = refl; same_length = refl; used_more = omega arith; beyond = refl };
  more = λ s t u a b. record {
    same_lender = b.same_lender ∙ a.same_lender;
    same_length = b.same_length ∙ a.same_length;
    used_more = omega (arith, a.used_more, b.used_more);
    beyond = b.beyond ∙ drop-further (used t) (used u) (memory t) (memory s) b.used_more a.beyond;
  };
}
