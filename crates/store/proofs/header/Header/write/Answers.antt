-- Four parts, each written after those in front of it.
use Rattle.std.proofs.Common.{◌≡◌, ℕ, ◌<◌, List, [], ◌∷◌, ◌++◌, length, pos, codes, sym, refl, ◌∙◌, append_assoc, arith, rules}
use borrow.Rule.Slice.PartMut.{put_mid}
use lib.Seq.{paste}
use Rattle.std.proofs.lemmas.List.{length-append, length_push}
use Rattle.std.proofs.lemmas.List.Edits.{paste_none}
use Rattle.store.specs.Rendering.{field, width}
use Rattle.store.proofs.Lines.{length-count, paste-part, paste-byte, paste-whole}
use Rattle.store.proofs.header.Header.write.Goals as goal

pub returns : goal.returns
returns c =
    let b = c.args.bytes.now in
    let w : List ℕ = codes "p cnf" in
    let v = field width (pos c.args.self.largest) in
    let n = field width (pos c.args.self.count) in
    let lv : length v ≡ width = length-count c.args.self.largest (omega (arith, c.args.self.named)) in
    let ln : length n ≡ width = length-count c.args.self.count c.args.self.few in
    let e₁ : put_mid 0 5 b c.copy_from_slice.new.self ≡ paste b 0 w 5 = paste-part b b c.copy_from_slice.new.self [] w 0 5 refl refl (paste_none b 0 []) c.copy_from_slice.ensures.after in
    let e₂ : put_mid 5 7 (put_mid 0 5 b c.copy_from_slice.new.self) c.write_count.new.column ≡ paste b 0 (w ++ v) 12 = paste-part b _ c.write_count.new.column w v 5 7 refl (sym lv) e₁ c.write_count.ensures in
    let l₂ : 12 ≡ length (w ++ v) = omega (arith, lv) in
    let e₃ : put_mid 12 7 (put_mid 5 7 (put_mid 0 5 b c.copy_from_slice.new.self) c.write_count.new.column) c.write_count-2.new.column ≡ paste b 0 ((w ++ v) ++ n) 19 = paste-part b _ c.write_count-2.new.column (w ++ v) n 12 7 l₂ (sym ln) e₂ c.write_count-2.ensures in
    let l₃ : 19 ≡ length ((w ++ v) ++ n) = omega (arith, length-append (w ++ v) n, ln) in
    let k : 19 < length (put_mid 12 7 (put_mid 5 7 (put_mid 0 5 b c.copy_from_slice.new.self) c.write_count.new.column) c.write_count-2.new.column) = search rules in
    paste-byte b _ ((w ++ v) ++ n) 19 10 l₃ k e₃
    ∙ paste-whole b (((w ++ v) ++ n) ++ 10 ∷ []) 20 (omega (arith, length_push ((w ++ v) ++ n) 10)) c.requires
    ∙ append_assoc (w ++ v) n (10 ∷ [])
    ∙ append_assoc w v (n ++ 10 ∷ [])
