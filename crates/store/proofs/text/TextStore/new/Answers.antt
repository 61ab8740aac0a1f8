-- Where the header has room, it is written and nothing else is.
use Rattle.std.proofs.Common.{◌≡◌, ◌≤◌, false, cond, ltb, [], ◌++◌, length, drop, sym, refl, ap, ◌∙◌, append-nil, arith}
use Rattle.std.proofs.lemmas.Bool.Decides.{nat_tests}
use Rattle.store.specs.Growth.{over}
use Rattle.store.specs.Rendering.{header_of, largest_in, width, header_length, room_in}
use Rattle.store.proofs.Texts.{head-length, shown-is, room-is, head-all, head-empty, head-shown}
use Rattle.store.proofs.text.TextStore.new.Goals as goal

pub invariant_of-result-2 : goal.invariant_of-result-2
invariant_of-result-2 c =
    let h = c.write.new.bytes in
    let d = c.args.bytes.now in
    let e : h ≡ header_of width 0 0 = c.write.ensures in
    let l : header_length ≤ length d = c.if-bytes-lt-HEADER.false in
    record {
      within = omega (arith, head-all h d e l);
      shown = head-shown h d e l;
      counted = sym (ap length (head-empty h d e l));
      greatest = sym (ap largest_in (head-empty h d e l));
    }

pub returns : goal.returns
returns c =
    let h = c.write.new.bytes in
    let d = c.args.bytes.now in
    let e : h ≡ header_of width 0 0 = c.write.ensures in
    let l : header_length ≤ length d = c.if-bytes-lt-HEADER.false in
    let t : ltb (length d) header_length ≡ false = grind (arith, nat_tests) in
    record {
      lent = refl;
      used = sym (ap (λ b. cond b 0 header_length) t);
      memory = ap (λ n. h ++ drop n d) (sym (head-length h d e l)) ∙ ap (λ s. over s d) (e ∙ sym (append-nil (header_of width 0 0)) ∙ sym (shown-is (length d) [] l));
      empty = head-empty h d e l;
      free = ap (λ n. room_in n header_length) (head-all h d e l) ∙ room-is (length d) header_length l;
    }
