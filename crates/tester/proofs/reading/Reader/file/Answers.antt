use Rattle.std.proofs.Common.{◌≡◌, ℕ, ◌+◌, ◌≤◌, sym, ◌∙◌, arith, List, length, min, drop, take, replicate, length-take-le}
use Rattle.std.proofs.lemmas.List.{drop_min}
use Rattle.tester.specs.Input.{first_of}
use Rattle.tester.specs.Reading.{words_for, file_size, file_of}
use Rattle.tester.proofs.InputLaws.{file_read, past_both}
use Rattle.tester.proofs.reading.Reader.file.Goals as goal

pub returns : goal.returns
unfolding file_of file_size words_for
returns c =
    let r = c.args.self.now in
    let s = c.size-length.ensures in
    let n = c.size-length.result in
    let k = c.div_ceil.result in
    let few : n ≤ 4112 = omega (arith, s.0) in
    let zeros : List ℕ = replicate 1028 0 in
    let size : length (take k zeros) ≡ words_for n = length-take-le k zeros (omega (arith, c.div_ceil.ensures, few)) ∙ c.div_ceil.ensures in
    let read : c.fill.new.into ≡ first_of (length (take k zeros)) (drop c.size-length.new.self.next c.size-length.new.self.words.now) = c.fill.ensures.0 in
    let past : c.fill.new.self.next ≡ min (c.size-length.new.self.next + length (take k zeros)) (length c.size-length.new.self.words.now) = c.fill.ensures.1.1 in
    let file : c.fill.new.into ≡ first_of (words_for n) (drop (r.next + 1) r.words.now) = rw (size, s.1.0, s.1.1, drop_min (r.next + 1) r.words.now) at read in
    let told : length c.args.bytes.now ≡ 4112 = c.told-bytes in (
      rw (c.bytes_of.ensures.1, ← s.0) (file_read n (drop (r.next + 1) r.words.now) c.fill.new.into c.args.bytes.now few told file),
      (c.fill.ensures.1.0 ∙ s.1.0, rw (size, s.1.0, s.1.1) at past ∙ rw (← s.0) (past_both r.next (words_for n) (length r.words.now))),
    )
