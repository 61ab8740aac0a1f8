-- The text store: what its memory holds at first, and once a clause's line and the header are written.
use Rattle.std.proofs.lemmas.Bool.Decides.{nat_tests}
use Rattle.std.proofs.Common.{◌≡◌, ℕ, ◌+◌, ◌-◌, ◌*◌, ◌^◌, ◌<◌, ◌≤◌, min, max, true, false, cond, ltb, List, [], ◌∷◌, ◌++◌, map, fold, length, take, drop, ℤ, pos, nat_abs, sym, ap, ◌∙◌, append_assoc, append-nil, arith}
use Rattle.std.specs.List.{flat_map}
use Rattle.std.proofs.lemmas.List.{length-append, length_push, length-drop, length-take-le, take_at, drop_at, flat_map_more}
use Rattle.store.specs.declared.text.TextStore.{TextStore}
use Rattle.store.specs.Clauses.{all_literals, is_clause, cost, greatest_variable}
use Rattle.store.specs.Rendering.{field, line_end, line_of, header_of, largest_of, largest_in, text_of, width, header_length, longest_text, shown_in, room_in, text_prices}
use Rattle.store.specs.ReadBack.{read_line, lines, clauses_of}
use Rattle.store.specs.Rewriting.{rewritten}
use Rattle.store.proofs.Meaning.{literals-parts, clause-parts, cost-by}
use Rattle.store.proofs.Lines.{length-count, length-line}
use Rattle.store.proofs.Reading.{lines-push}

pub length-header : (largest count : ℕ) → largest < 10 ^ width → count < 10 ^ width → length (header_of width largest count) ≡ header_length
length-header largest count l n =
    let f = field width (pos count) in
    omega (arith, length-append (field width (pos largest)) (f ++ 10 ∷ []), length_push f 10, length-count largest l, length-count count n)

-- the largest variable, with one clause more
pub largest-push : (cs : List (List ℤ)) (c : List ℤ) → largest_in (cs ++ c ∷ []) ≡ max (largest_in cs) (largest_of c)
largest-push [] c = omega arith
largest-push (d ∷ cs) c = ap (max (largest_of d)) (largest-push cs c) ∙ omega arith

pub largest_fold : (c : List ℤ) (n : ℕ) → fold (λ m z. max m (nat_abs z)) n c ≡ max n (largest_of c)
largest_fold [] n = omega arith
largest_fold (z ∷ c) n = omega (arith, largest_fold c (max n (nat_abs z)))

pub largest_low : (c : List ℤ) → all_literals c ≡ true → largest_of c ≤ greatest_variable
largest_low [] a = omega arith
largest_low (z ∷ c) a =
    let p = literals-parts z c a in
    let h : nat_abs z ≤ 99999 = grind (arith, nat_tests) in
    omega (arith, largest_low c p.1)

-- a line has one byte at least
fewer-lines : (cs : List (List ℤ)) → length cs ≤ length (flat_map (line_of width) cs)
fewer-lines [] = omega arith
fewer-lines (c ∷ cs) = omega (arith, fewer-lines cs, length-append (line_of width c) (flat_map (line_of width) cs), length-append (flat_map (field width) c) line_end)

has_room : (L : ℕ) → header_length ≤ L → ltb L header_length ≡ false
has_room L h = grind (arith, nat_tests)

pub shown-is : (L : ℕ) (cs : List (List ℤ)) → header_length ≤ L → shown_in L cs ≡ text_of width cs
shown-is L cs h = ap (λ b. cond b [] (text_of width cs)) (has_room L h)

pub room-is : (L used : ℕ) → header_length ≤ L → room_in L used ≡ min L longest_text - used
room-is L used h = ap (λ b. cond b 0 (min L longest_text - used)) (has_room L h)

pub room-none : (L used : ℕ) → 0 < room_in L used → header_length ≤ L
room-none L used h = grind (arith, nat_tests)

-- the memory d, of which `at` bytes were used, is t afterwards, and `end` bytes are used: a clause joined
pub record Wrote (d t : List ℕ) (at end largest count : ℕ) (c : List ℤ) : Type 0 where
  pub held : clauses_of (take end t) ≡ clauses_of (take at d) ++ c ∷ []
  pub shown : take end t ≡ shown_in (length t) (clauses_of (take end t))
  pub counted : count ≡ length (clauses_of (take end t))
  pub greatest : largest ≡ largest_in (clauses_of (take end t))
  pub beyond : drop end t ≡ drop end d
  pub same_length : length t ≡ length d

-- at first: the header, and then the bytes as they were
module _ (h d : List ℕ) (e : h ≡ header_of width 0 0) (l : header_length ≤ length d) where
  pub head-length : length h ≡ header_length
  head-length = ap length e ∙ length-header 0 0 (omega arith) (omega arith)

  pub head-used : take header_length (h ++ drop header_length d) ≡ h
  head-used = take_at h (drop header_length d) header_length head-length

  pub head-all : length (h ++ drop header_length d) ≡ length d
  head-all = length-append h (drop header_length d) ∙ omega (arith, head-length, length-drop header_length d)

  pub head-empty : clauses_of (take header_length (h ++ drop header_length d)) ≡ []
  head-empty = ap clauses_of head-used ∙ ap (λ t. map (read_line width) (lines [] t)) (ap (drop header_length) (sym (append-nil h)) ∙ drop_at h [] header_length head-length)

  pub head-shown : take header_length (h ++ drop header_length d) ≡ shown_in (length (h ++ drop header_length d)) (clauses_of (take header_length (h ++ drop header_length d)))
  head-shown =
      head-used ∙ e ∙ sym (append-nil (header_of width 0 0)) ∙ sym (shown-is (length (h ++ drop header_length d)) [] (omega (arith, head-all)))
      ∙ ap (shown_in (length (h ++ drop header_length d))) (sym head-empty)

-- what the used part says, where the header has room
module _ (d : List ℕ) (at largest count : ℕ) (w : at ≤ min (length d) longest_text) (s : take at d ≡ shown_in (length d) (clauses_of (take at d))) (cn : count ≡ length (clauses_of (take at d))) (lg : largest ≡ largest_in (clauses_of (take at d))) (lw : largest ≤ greatest_variable) (l : header_length ≤ length d) where
  text-is : take at d ≡ text_of width (clauses_of (take at d))
  text-is = s ∙ shown-is (length d) (clauses_of (take at d)) l

  -- the clauses are fewer than the bytes
  pub count_low : count ≤ at
  count_low =
      let H = clauses_of (take at d) in
      omega (arith, ap length text-is, length-append (header_of width (largest_in H) (length H)) (flat_map (line_of width) H), fewer-lines H, length-take-le at d (omega arith))

  header-length : length (header_of width (largest_in (clauses_of (take at d))) (length (clauses_of (take at d)))) ≡ header_length
  header-length = length-header _ _ (omega (arith, lg, lw)) (omega (arith, cn, count_low))

  pub at_long : header_length ≤ at
  at_long =
      let H = clauses_of (take at d) in
      omega (arith, ap length text-is, length-append (header_of width (largest_in H) (length H)) (flat_map (line_of width) H), header-length, length-take-le at d (omega arith))

  lines_are : drop header_length (take at d) ≡ flat_map (line_of width) (clauses_of (take at d))
  lines_are =
      let H = clauses_of (take at d) in
      ap (drop header_length) text-is ∙ drop_at (header_of width (largest_in H) (length H)) (flat_map (line_of width) H) header_length header-length

  -- a clause's line is written, and the header anew
  module _ (c : List ℤ) (a : all_literals c ≡ true) (m : ℕ) (me : m ≡ max largest (largest_of c)) (f : at + (width * length c + 3) ≤ min (length d) longest_text) where
    pub largest-fits : m < 10 ^ width
    largest-fits = omega (arith, largest_low c a)

    pub count_fits : count + 1 < 10 ^ width
    count_fits = omega (arith, count_low)

    module _ (t : List ℕ) (te : t ≡ rewritten d at c m (count + 1)) where
      end : ℕ
      end = at + (width * length c + 3)

      front : List ℕ
      front = header_of width m (count + 1) ++ (drop header_length (take at d) ++ line_of width c)

      whole : t ≡ front ++ drop end d
      unfolding front end
      whole =
          let h = header_of width m (count + 1) in
          let js = drop header_length (take at d) in
          te ∙ ap (λ r. h ++ r) (sym (append_assoc js (line_of width c) (drop end d))) ∙ sym (append_assoc h (js ++ line_of width c) (drop end d))

      front_length : length front ≡ end
      unfolding front end
      front_length =
          let h = header_of width m (count + 1) in
          let js = drop header_length (take at d) in
          length-append h (js ++ line_of width c)
          ∙ omega (arith, length-append js (line_of width c), length-header m (count + 1) largest-fits count_fits, length-line c a, length-drop header_length (take at d), length-take-le at d (omega arith), at_long)

      used-is : take end t ≡ front
      used-is = ap (take end) whole ∙ take_at front (drop end d) end front_length

      same-beyond : drop end t ≡ drop end d
      same-beyond = ap (drop end) whole ∙ drop_at front (drop end d) end front_length

      all-length : length t ≡ length d
      unfolding end
      all-length = ap length whole ∙ length-append front (drop end d) ∙ omega (arith, front_length, length-drop end d)

      held_more : clauses_of (take end t) ≡ clauses_of (take at d) ++ c ∷ []
      unfolding front
      held_more =
          let js = drop header_length (take at d) in
          ap clauses_of used-is
          ∙ ap (λ r. map (read_line width) (lines [] r)) (drop_at (header_of width m (count + 1)) (js ++ line_of width c) header_length (length-header m (count + 1) largest-fits count_fits))
          ∙ lines-push js (clauses_of (take at d)) c lines_are a

      count-more : count + 1 ≡ length (clauses_of (take end t))
      count-more = ap (λ n. n + 1) cn ∙ sym (ap length held_more ∙ length_push (clauses_of (take at d)) c)

      largest-more : m ≡ largest_in (clauses_of (take end t))
      largest-more = me ∙ ap (λ n. max n (largest_of c)) lg ∙ sym (ap largest_in held_more ∙ largest-push (clauses_of (take at d)) c)

      shown-more : take end t ≡ shown_in (length t) (clauses_of (take end t))
      unfolding front
      shown-more =
          let js = drop header_length (take at d) in
          let cs = clauses_of (take end t) in
          used-is
          ∙ ap (λ r. header_of width m (count + 1) ++ (r ++ line_of width c)) lines_are
          ∙ ap (λ r. header_of width m (count + 1) ++ r) (flat_map_more (line_of width) [] (clauses_of (take at d)) c ∙ ap (flat_map (line_of width)) (sym held_more))
          ∙ ap (λ n. header_of width n (count + 1) ++ flat_map (line_of width) cs) largest-more
          ∙ ap (λ n. header_of width (largest_in cs) n ++ flat_map (line_of width) cs) count-more
          ∙ sym (shown-is (length t) cs (omega (arith, all-length)))

      pub wrote : Wrote d t at (at + (width * length c + 3)) m (count + 1) c
      unfolding end
      wrote = record { held = held_more; shown = shown-more; counted = count-more; greatest = largest-more; beyond = same-beyond; same_length = all-length }

-- a store o, and a clause that it may take
module _ (o : TextStore) (c : List ℤ) (lawful : is_clause c ≡ true) (free : cost text_prices (length c) ≤ room_in (length o.bytes.now) o.used) where
  price : cost text_prices (length c) ≡ width * length c + 3
  price = let p = clause-parts c lawful in cost-by (λ k. width * k + 3) (length c) p.0 p.1

  long : header_length ≤ length o.bytes.now
  long = room-none (length o.bytes.now) o.used (omega (arith, price))

  fits : o.used + (width * length c + 3) ≤ min (length o.bytes.now) longest_text
  fits = omega (arith, o.within, price, room-is (length o.bytes.now) o.used long)

  pub put_behind : header_length ≤ o.used
  put_behind = at_long o.bytes.now o.used o.header.largest o.header.count o.within o.shown o.counted o.greatest o.header.named long

  pub put_few : o.header.count + 1 < 10 ^ width
  put_few = omega (arith, fits, count_low o.bytes.now o.used o.header.largest o.header.count o.within o.shown o.counted o.greatest o.header.named long)

  pub put-wrote : (m n : ℕ) (t : List ℕ) → m ≡ max o.header.largest (largest_of c) → n ≡ o.header.count + 1 → t ≡ rewritten o.bytes.now o.used c m n → Wrote o.bytes.now t o.used (o.used + (width * length c + 3)) m n c
  put-wrote m n t me ne e =
      rw ne (wrote o.bytes.now o.used o.header.largest o.header.count o.within o.shown o.counted o.greatest o.header.named long c (clause-parts c lawful).2 m me fits t (e ∙ ap (rewritten o.bytes.now o.used c m) ne))

  pub put-within : (t : List ℕ) → length t ≡ length o.bytes.now → o.used + (width * length c + 3) ≤ min (length t) longest_text
  put-within t e = omega (arith, fits)

  pub put-units : (t : List ℕ) → length t ≡ length o.bytes.now → room_in (length t) (o.used + (width * length c + 3)) ≡ room_in (length o.bytes.now) o.used - cost text_prices (length c)
  put-units t e =
      ap (λ k. room_in k (o.used + (width * length c + 3))) e
      ∙ room-is (length o.bytes.now) (o.used + (width * length c + 3)) long
      ∙ omega (arith, room-is (length o.bytes.now) o.used long, price)
