-- The seconds are as many as the list of their numbers holds: document 02, §5, "the seconds of that lesson that ended at or above it".
-- Assumes nothing.
use Rattle.std.specs.Prelude.{Bool, false, ◌≡◌, refl, ℕ, ◌+◌, ◌≤◌, ◌<◌}
use Rattle.std.proofs.Math.Bool.{true}
use Rattle.std.proofs.Common.{true≢false, sym, ◌∙◌, ⊎_elim, arith}
use Rattle.std.proofs.Math.Path.{ap}
use mathlib.Core.List.Memᴰ
use mathlib.Core.List.{List, [], ◌∷◌, ◌++◌, Memᴰ}
use Rattle.std.proofs.Math.ListN.{length}
use Rattle.kit.specs.Pick.{pick}
use Rattle.car.specs.declared.Car.{Car}
use Rattle.car.specs.Drive.{step_of, accepted_tick}
use Rattle.car.specs.Lesson.{driven}
use Rattle.car.specs.Mark.{ends_above, seconds_of}
use Rattle.passing.specs.FirstPass.{SecondAt, Rising, end, next, Counts}
use Rattle.passing.proofs.PassingLaws.{ends_says, says_ends, no_split}

-- such a second of a lesson is its first word, or one of the rest
module _ (mark : ℕ) (c : Car) (w : ℕ) (ws : List ℕ) where
  second_first : ends_above mark c w ≡ true → SecondAt mark c (w ∷ ws) 1
  unfolding driven
  second_first e = let s = ends_says mark c w e in record {
    before = [];
    word = w;
    after = ws;
    split = refl;
    number = refl;
    tick = s.0;
    above = s.1;
  }

  second_later : (k : ℕ) → SecondAt mark (step_of c w).car ws k → SecondAt mark c (w ∷ ws) (k + 1)
  unfolding driven
  second_later k s = record {
    before = w ∷ s.before;
    word = s.word;
    after = s.after;
    split = ap (λ (l : List ℕ). w ∷ l) s.split;
    number = omega (arith, s.number);
    tick = s.tick;
    above = s.above;
  }

  second_cases : {P : Type 0} (k : ℕ) → SecondAt mark c (w ∷ ws) k
      → (k ≡ 1 → ends_above mark c w ≡ true → P) → ((m : ℕ) → k ≡ m + 1 → SecondAt mark (step_of c w).car ws m → P) → P
  unfolding driven
  second_cases {P} k s f g = go s.before s.split s.number s.tick s.above
    where
      go : (us : List ℕ) → w ∷ ws ≡ us ++ s.word ∷ s.after → k ≡ length us + 1
          → accepted_tick (driven c us) s.word ≡ true → mark ≤ (step_of (driven c us) s.word).car.speed → P
      go [] e n t a = let q : s.word ≡ w = cc in f n (says_ends mark c w (rw q at t) (rw q at a))
      go (u ∷ us) e n t a =
          let q : u ≡ w = cc in
          g (length us + 1) (omega arith) (record {
            before = us;
            word = s.word;
            after = s.after;
            split = cc;
            number = refl;
            tick = rw q at t;
            above = rw q at a;
          })

rising_less : {k m : ℕ} {ns : List ℕ} → k ≤ m → Rising m ns → Rising k ns
rising_less h end = end
rising_less {k} h (next n l r) = next {k = k} n (omega arith) r

-- their numbers, counted from i + 1
record Listed (mark i : ℕ) (c : Car) (ws : List ℕ) : Type 0 where
  numbers : List ℕ
  rising : Rising i numbers
  each : (k : ℕ) → Memᴰ k numbers → (m : ℕ) × (k ≡ i + m) × SecondAt mark c ws m
  all : (k m : ℕ) → k ≡ i + m → SecondAt mark c ws m → Memᴰ k numbers
  count : seconds_of mark c ws ≡ length numbers

listed : (mark i : ℕ) (c : Car) (ws : List ℕ) → Listed mark i c ws
unfolding seconds_of pick
listed mark i c [] = record {
  numbers = [];
  rising = end;
  each = λ k m. absurd (Memᴰ.not-nil m);
  all = λ k m e s. absurd (no_split s.before s.word s.after s.split);
  count = refl;
}
listed mark i c (w ∷ ws) = go (ends_above mark c w) refl (listed mark (i + 1) (step_of c w).car ws)
  where
    shifted : (l : Listed mark (i + 1) (step_of c w).car ws) (k : ℕ) → Memᴰ k l.numbers → (m : ℕ) × (k ≡ i + m) × SecondAt mark c (w ∷ ws) m
    shifted l k h = let s = l.each k h in (s.0 + 1, omega (arith, s.1), second_later mark c w ws s.0 s.2)

    go : (t : Bool) → ends_above mark c w ≡ t → Listed mark (i + 1) (step_of c w).car ws → Listed mark i c (w ∷ ws)
    go true t l = record {
      numbers = (i + 1) ∷ l.numbers;
      rising = next {k = i} (i + 1) (omega arith) l.rising;
      each = λ k h. ⊎_elim (λ e. (1, e, second_first mark c w ws t)) (λ h. shifted l k h) (Memᴰ.cases_cons h);
      all = λ k m e s. second_cases mark c w ws m s
          (λ n _. Memᴰ.head (omega arith))
          (λ n q r. Memᴰ.tail (l.all k n (omega arith) r));
      count = rw t (omega (arith, l.count));
    }
    go false t l = record {
      numbers = l.numbers;
      rising = rising_less (omega arith) l.rising;
      each = shifted l;
      all = λ k m e s. second_cases mark c w ws m s
          (λ n y. absurd (true≢false (sym y ∙ t)))
          (λ n q r. l.all k n (omega arith) r);
      count = rw t (omega (arith, l.count));
    }

pub seconds_counts : (mark : ℕ) (c : Car) (ws : List ℕ) → Counts mark c ws (seconds_of mark c ws)
seconds_counts mark c ws = let l = listed mark 0 c ws in record {
  numbers = l.numbers;
  rising = l.rising;
  each = λ k h. let s = l.each k h in let q : s.0 ≡ k = omega (arith, s.1) in rw (← q) s.2;
  all = λ k s. l.all k k (omega arith) s;
  count = l.count;
}

-- and no other number is: two rising lists of the same numbers are equally long
rising_above : {k : ℕ} {ns : List ℕ} → Rising k ns → (n : ℕ) → Memᴰ n ns → k < n
rising_above end n m = absurd (Memᴰ.not-nil m)
rising_above (next a l r) n m = ⊎_elim (λ e. omega arith) (λ h. omega (arith, rising_above r n h)) (Memᴰ.cases_cons m)

rising_fewer : {i j : ℕ} {ms ns : List ℕ} → Rising i ms → Rising j ns → ((k : ℕ) → Memᴰ k ms → Memᴰ k ns) → length ms ≤ length ns
rising_fewer end r f = omega arith
rising_fewer (next a l p) end f = absurd (Memᴰ.not-nil (f a (Memᴰ.head refl)))
rising_fewer (next a {ns = ms} l p) (next b {ns = ns} m q) f = omega (arith, rising_fewer p q rest)
  where
    not_first : (k : ℕ) → Memᴰ k ms → k ≡ b → ⊥
    not_first k h e =
        let z = rising_above p k h in
        ⊎_elim (λ g. omega arith) (λ g. omega (arith, rising_above q a g)) (Memᴰ.cases_cons (f a (Memᴰ.head refl)))

    rest : (k : ℕ) → Memᴰ k ms → Memᴰ k ns
    rest k h = ⊎_elim (λ e. absurd (not_first k h e)) (λ g. g) (Memᴰ.cases_cons (f k (Memᴰ.tail h)))

pub counts_seconds : (mark : ℕ) (c : Car) (ws : List ℕ) (n : ℕ) → Counts mark c ws n → n ≡ seconds_of mark c ws
counts_seconds mark c ws n d =
    let s = seconds_counts mark c ws in
    omega (
      arith,
      d.count,
      s.count,
      rising_fewer d.rising s.rising (λ k h. s.all k (d.each k h)),
      rising_fewer s.rising d.rising (λ k h. d.all k (s.each k h)),
    )
