-- The first bad byte of a text made of two parts.
use Rattle.std.proofs.Common.{◌≡◌, ℕ, suc, ◌+◌, ◌<◌, ◌≤◌, List, [], ◌∷◌, ◌++◌, length, take, drop, sym, refl, ap, ◌∙◌, subst, inl, inr, append_assoc, append-nil, add-suc, suc-add, zero-add, arith, length-append}
use Rattle.std.proofs.lemmas.Bool.{cases_lt}
use Rattle.std.proofs.lemmas.List.{take_all, take-append-drop, take-take, take-append-le, take_at, drop_at, length-take-le}
use Rattle.text.specs.Texts.{Viable, Stuck, Any}
use Rattle.text.proofs.Parts.{Then, Coded}

pub same_parts : (a c x y : List ℕ) → length a ≡ length c → a ++ x ≡ c ++ y → (a ≡ c) × (x ≡ y)
same_parts a c x y h e = (
  sym (take_at a x (length a) refl) ∙ ap (take (length a)) e ∙ take_at c y (length a) (sym h),
  sym (drop_at a x (length a) refl) ∙ ap (drop (length a)) e ∙ drop_at c y (length a) (sym h),
)

pub take_past : (a s : List ℕ) (k : ℕ) → take (length a + k) (a ++ s) ≡ a ++ take k s
take_past [] s k = rw zero-add
take_past (x ∷ a) s k = rw suc-add (ap (λ t. x ∷ t) (take_past a s k))

-- p begins a longer a
pub begins : (p q a b : List ℕ) → length p ≤ length a → p ++ q ≡ a ++ b → p ++ drop (length p) a ≡ a
begins p q a b j e =
    let x : p ≡ take (length p) a = sym (take_at p q (length p) refl) ∙ ap (take (length p)) e ∙ take-append-le (length p) a b j in
    ap (λ y. y ++ drop (length p) a) x ∙ take-append-drop (length p) a

pub coded-by-length : {X : Type 0} (A : X → List ℕ → Type 0) (m : ℕ) → ((x : X) (a : List ℕ) → A x a → length a ≡ m) → ((x y : X) (a : List ℕ) → A x a → A y a → x ≡ y) → Coded A
coded-by-length A m long one x y a b u v p q e =
    let s : a ≡ b = (same_parts a b u v (long x a p ∙ sym (long y b q)) e).0 in
    (one x y b (let P : List ℕ → Type 0 = A x in subst P s p) q, s)

-- a text of A that p ++ w begins with, where p can be a beginning of a text of A but is none: then p begins it
pub inside : {X : Type 0} (A : X → List ℕ → Type 0) (p w b : List ℕ) (a : List ℕ) (x : X) → Coded A → (Viable (Any A) p) → (Any A p → ⊥) → A x a → p ++ w ≡ a ++ b → length p < length a
inside {X} A p w b a x code live part l e = elim (cases_lt (length p) (length a)) [ inl h ↦ h | inr h ↦ absurd (part (x, whole h)) ]
  where
    whole : length a ≤ length p → A x p
    whole h =
        let r : a ++ drop (length a) p ≡ p = begins a b p w h (sym e) in
        let z : a ≡ p ++ live.0 = (code x live.1.0 a (p ++ live.0) (drop (length a) p ++ live.0) [] l live.1.1 (sym (append_assoc a (drop (length a) p) live.0) ∙ ap (λ t. t ++ live.0) r ∙ sym (append-nil (p ++ live.0)))).1 in
        let n : length a ≡ length p + length live.0 = ap length z ∙ length-append p live.0 in
        let y : a ≡ p = (same_parts a p [] live.0 (omega arith) (append-nil a ∙ z)).0 in
        let P : List ℕ → Type 0 = A x in subst P y l

pub stuck-left : {X : Type 0} (A B : X → List ℕ → Type 0) (s : List ℕ) (k : ℕ) → Coded A → ((x : X) → Viable (B x) []) → Stuck (Any A) s k → Stuck (Then A B) s k
stuck-left {X} A B s k code more bad = (
  (
    front,
    elim bad.0.1 [
      | inl x ↦ inl (x.0, (λ w. x.1 (viable w.0 w.1 x.0)))
      | inr y ↦ inr (y.0, (λ t. part (let P : List ℕ → Type 0 = Then A B in subst P (sym (take_all k s (omega (arith, y.0)))) t)))
    ],
  ),
  part,
)
  where
    front : Viable (Then A B) (take k s)
    front =
        let l = bad.0.0 in
        let m = more l.1.0 in
        (l.0 ++ m.0, (l.1.0, take k s ++ l.0, m.0, sym (append_assoc (take k s) l.0 m.0), l.1.1, m.1))

    part : Then A B (take k s) → ⊥
    part t = omega (arith, inside A (take k s) [] t.2 t.1 t.0 code bad.0.0 bad.1 t.4 (append-nil (take k s) ∙ t.3), ap length t.3 ∙ length-append t.1 t.2)

    viable : (w : List ℕ) → Then A B (take (suc k) s ++ w) → k < length s → Viable (Any A) (take (suc k) s)
    viable w t h =
        let e : take k s ++ drop k (take (suc k) s) ≡ take (suc k) s =
        ap (λ y. y ++ drop k (take (suc k) s)) (sym (take-take k (suc k) s (omega arith))) ∙ take-append-drop k (take (suc k) s) in
        let i : length (take k s) < length t.1 =
        inside A (take k s) (drop k (take (suc k) s) ++ w) t.2 t.1 t.0 code bad.0.0 bad.1 t.4
        (sym (append_assoc (take k s) (drop k (take (suc k) s)) w) ∙ ap (λ y. y ++ w) e ∙ t.3) in
        let n : length (take k s) ≡ k = length-take-le k s (omega arith) in
        let m : length (take (suc k) s) ≡ suc k = length-take-le (suc k) s h in
        let r = begins (take (suc k) s) w t.1 t.2 (omega arith) t.3 in
        let P : List ℕ → Type 0 = A t.0 in
        (drop (length (take (suc k) s)) t.1, (t.0, subst P (sym r) t.4))

-- what stands after a text of A
pub rest_of : {X : Type 0} (A B : X → List ℕ → Type 0) (x : X) (a u : List ℕ) → Coded A → A x a → Then A B (a ++ u) → B x u
rest_of {X} A B x a u code l t =
    let c = code x t.0 a t.1 u t.2 l t.4 t.3 in
    let r : u ≡ t.2 = (same_parts a t.1 u t.2 (ap length c.1) t.3).1 in
    let P : X → Type 0 = λ y. B y u in
    let Q : List ℕ → Type 0 = B t.0 in
    subst P (sym c.0) (subst Q (sym r) t.5)

pub stuck-right : {X : Type 0} (A B : X → List ℕ → Type 0) (x : X) (a s : List ℕ) (k : ℕ) → Coded A → A x a → Stuck (B x) s k → Stuck (Then A B) (a ++ s) (length a + k)
stuck-right {X} A B x a s k code l bad = (
  (
    (bad.0.0.0, (x, a, take k s ++ bad.0.0.0, ap (λ y. y ++ bad.0.0.0) (take_past a s k) ∙ append_assoc a (take k s) bad.0.0.0, l, bad.0.0.1)),
    elim bad.0.1 [
      | inl y ↦ inl ((rw length-append (omega (arith, y.0))), (λ w. y.1 (w.0, rest_of A B x a (take (suc k) s ++ w.0) code l (move (long w.0) w.1))))
      | inr y ↦ inr ((rw length-append (omega (arith, y.0))), (λ t. y.1 (rest_of A B x a s code l t)))
    ],
  ),
  (λ t. bad.1 (rest_of A B x a (take k s) code l (move (take_past a s k) t))),
)
  where
    move : {c d : List ℕ} → c ≡ d → Then A B c → Then A B d
    move e t = let P : List ℕ → Type 0 = Then A B in subst P e t

    long : (w : List ℕ) → take (suc (length a + k)) (a ++ s) ++ w ≡ a ++ (take (suc k) s ++ w)
    long w = ap (λ n. take n (a ++ s) ++ w) (sym (add-suc (length a) k)) ∙ ap (λ y. y ++ w) (take_past a s (suc k)) ∙ append_assoc a (take (suc k) s) w
