-- A lesson driven part by part: one part of it, and what the loops that search and that count keep. What is left gives the whole.
-- Assumes nothing.
use Rattle.std.specs.Prelude.{Ok, Err, Some, None, Bool, true, false, ◌≡◌, refl, List, [], ◌++◌, ℕ, ◌+◌, ◌-◌, ◌≤◌, length, take, drop, unwrap_or}
use Rattle.std.proofs.Common.{sym, ap, ◌∙◌, zero-add, arith, length-append, length-drop}
use Rattle.std.proofs.Math.Seq.{drop-append_seam, take_all}
use Rattle.std.proofs.lemmas.List.{nil_from_length}
use borrow.Author.Tests.{le-ltb}
use Rattle.kit.specs.Answer.{Answer, gives}
use Rattle.kit.specs.Pick.{pick_true, pick_false}
use Rattle.event.specs.declared.refusal.Refusal.{Refusal}
use Rattle.event.proofs.RefusalLaws.{number_pos}
use Rattle.car.specs.declared.Car.{Car}
use Rattle.car.specs.declared.lesson.Ran as lesson
use Rattle.car.specs.Good.{good_of}
use Rattle.car.specs.Lesson.{driven, accepted_of, refused_of}
use Rattle.car.proofs.LessonLaws.{driven_good, counts_all}
use Rattle.car.specs.Mark.{Ran, run_answer, seconds_of, searched, found, ran_of, run_of}
use Rattle.car.proofs.MarkLaws.{searched_0, searched_few}
use Rattle.history.proofs.HistoryLaws.{driven_append}
use Rattle.passing.specs.declared.Counted as code
use Rattle.passing.specs.declared.Marked.{Marked}
use Rattle.passing.specs.Passing.{Passed, Counted, count_answer, passed_of, later, onward, count_of, mark_of}
use Rattle.passing.specs.PassingShape.{find_of}
use Rattle.passing.proofs.PassingLaws.{later_0, passed_append, seconds_append, seconds_accepted, searched_prefix, searched_append, searched_stops}

-- as many seconds as words, at most
few_seconds : (mark : ℕ) (c : Car) (ws : List ℕ) → seconds_of mark c ws ≤ length ws
few_seconds mark c ws = omega (arith, seconds_accepted mark c ws, counts_all c ws)

-- ---- one part of a good car's lesson, driven with room for its answers
module _ (halt mark : ℕ) (c : Car) (part answers₀ : List ℕ) (good : good_of c ≡ true) (room : length part ≤ length answers₀) where
  abbrev driving : List ℕ
  driving = searched halt c part

  ran : run_of halt mark c part answers₀ ≡ ran_of halt mark c part
  unfolding run_of
  ran = pick_true _ _ _ good ∙ pick_false _ _ _ (le-ltb _ _ room)

  -- it is not refused,
  pub no_refusal : {A : Type 0} (r : Refusal) → run_answer c (Err r) ≡ run_of halt mark c part answers₀ → A
  unfolding ran_of
  no_refusal r e = number_pos r _ (ap (λ (x : Ran). x.refusal) (e ∙ ran)) refl

  -- and gives the car behind it, its counts and its seconds
  module _ (t : lesson.Ran) (e : run_answer c (Ok t) ≡ run_of halt mark c part answers₀) where
    car_is : t.car ≡ driven c driving
    unfolding ran_of
    car_is = ap (λ (x : Ran). x.car) (e ∙ ran)

    seconds_is : t.seconds ≡ seconds_of mark c driving
    unfolding ran_of
    seconds_is = ap (λ (x : Ran). x.seconds) (e ∙ ran)

    found_is : t.found ≡ found halt c part
    unfolding ran_of
    found_is = ap (λ (x : Ran). x.found) (e ∙ ran)

    number_is : t.accepted + t.refused ≡ length driving
    unfolding ran_of
    number_is =
        let a : t.accepted ≡ accepted_of c driving = ap (λ (x : Ran). x.accepted) (e ∙ ran) in
        let r : t.refused ≡ refused_of c driving = ap (λ (x : Ran). x.refused) (e ∙ ran) in
        omega (arith, a, r, counts_all c driving)

    -- no more than the part has
    few_is : (t.seconds ≤ length part) × (t.accepted + t.refused ≤ length part)
    few_is = (omega (arith, seconds_is, few_seconds mark c driving, searched_few halt c part), omega (arith, number_is, searched_few halt c part))

-- ---- the loop that counts
pub record Counting (mark : ℕ) (first : Car) (ws : List ℕ) (car : Car) (rest : List ℕ) (count : ℕ) : Type 0 where
  pub good : good_of car ≡ true
  pub same_car : driven car rest ≡ driven first ws
  pub whole : count + seconds_of mark car rest ≡ seconds_of mark first ws

module _ (mark : ℕ) (first : Car) (ws : List ℕ) (car : Car) (rest : List ℕ) (count : ℕ) (g : Counting mark first ws car rest count) where
  module _ (part behind answers : List ℕ) (split : rest ≡ part ++ behind) (few : length part ≤ length answers) (t : lesson.Ran) (e : run_answer car (Ok t) ≡ run_of 0 mark car part answers) where
    all : searched 0 car part ≡ part
    all = searched_0 car part

    counted : t.seconds ≡ seconds_of mark car part
    counted = rw all at (seconds_is 0 mark car part answers g.good few t e)

    on : seconds_of mark car rest ≡ seconds_of mark car part + seconds_of mark (driven car part) behind
    on = ap (seconds_of mark car) split ∙ seconds_append mark car part behind

    pub counted_few : count + t.seconds ≤ length ws
    counted_few = omega (arith, counted, on, g.whole, few_seconds mark first ws)

    pub counting_again : Counting mark first ws t.car behind (count + t.seconds)
    counting_again = rw (rw all at (car_is 0 mark car part answers g.good few t e)) (record {
      good = driven_good car part g.good;
      same_car = sym (driven_append car part behind) ∙ ap (driven car) (sym split) ∙ g.same_car;
      whole = omega (arith, counted, on, g.whole);
    })

  pub counting_ends : good_of first ≡ true → length rest ≡ 0 → record { car = car; seconds = count; refusal = 0 } ≡ count_of mark first ws
  unfolding count_of seconds_of driven
  counting_ends o h =
      let none : rest ≡ [] = nil_from_length rest h in
      let n : count ≡ seconds_of mark first ws = omega (arith, rw none at g.whole) in
      rw (n, rw none at g.same_car) (sym (pick_true _ _ _ o))

-- ---- the loop that searches
pub record Seeking (mark : ℕ) (first : Car) (ws : List ℕ) (car : Car) (rest : List ℕ) (count before : ℕ) : Type 0 where
  pub good : good_of car ≡ true
  pub some : count ≤ before
  pub ahead : before + length rest ≡ length ws
  pub same_car : driven car (searched mark car rest) ≡ driven first (searched mark first ws)
  pub whole : count + seconds_of mark car (searched mark car rest) ≡ seconds_of mark first (searched mark first ws)
  pub number : later before (passed_of mark car rest) ≡ passed_of mark first ws

later_later : (j k : ℕ) (p : Passed) → later j (later k p) ≡ later (j + k) p
unfolding later
later_later j k (Some n) = ap Some (omega arith)
later_later j k None = refl

module _ (mark : ℕ) (first : Car) (ws : List ℕ) where
  pub seeking_begins : {rest : List ℕ} → good_of first ≡ true → rest ≡ ws → Seeking mark first ws first rest 0 0
  seeking_begins g e = rw e (record { good = g; some = omega arith; ahead = zero-add _; same_car = refl; whole = zero-add _; number = later_0 _ })

  module _ (car : Car) (rest : List ℕ) (count before : ℕ) (g : Seeking mark first ws car rest count before) where
    module _ (part behind answers : List ℕ) (split : rest ≡ part ++ behind) (few : length part ≤ length answers) (t : lesson.Ran) (e : run_answer car (Ok t) ≡ run_of mark mark car part answers) where
      abbrev here : List ℕ
      here = searched mark car part

      lengths : length rest ≡ length part + length behind
      lengths = ap length split ∙ length-append part behind

      few_here : (t.seconds ≤ length part) × (t.accepted + t.refused ≤ length part)
      few_here = few_is mark mark car part answers g.good few t e

      seconds_here : t.seconds ≡ seconds_of mark car here
      seconds_here = seconds_is mark mark car part answers g.good few t e

      car_here : t.car ≡ driven car here
      car_here = car_is mark mark car part answers g.good few t e

      found_here : t.found ≡ found mark car part
      found_here = found_is mark mark car part answers g.good few t e

      number_here : t.accepted + t.refused ≡ length here
      number_here = number_is mark mark car part answers g.good few t e

      pub sought_few : (count + t.seconds ≤ length ws) × (before + t.accepted + t.refused ≤ length ws) × (before + length part ≤ length ws)
      sought_few = (omega (arith, few_here.0, g.some, g.ahead, lengths), omega (arith, few_here.1, g.ahead, lengths), omega (arith, g.ahead, lengths))

      onwards : passed_of mark car rest ≡ onward (passed_of mark car part) (length part) (passed_of mark (driven car part) behind)
      onwards = ap (passed_of mark car) split ∙ passed_append mark car part behind

      -- no word of the part passed the mark
      pub seeking_again : t.found ≡ false → Seeking mark first ws t.car behind (count + t.seconds) (before + length part)
      unfolding onward
      seeking_again n =
          let f = sym found_here ∙ n in
          let all : here ≡ part = (searched_prefix mark car part).whole f in
          let on : searched mark car rest ≡ part ++ searched mark (driven car part) behind = ap (searched mark car) split ∙ (searched_append mark car part behind f).0 in
          let s : t.seconds ≡ seconds_of mark car part = rw all at seconds_here in
          let p : passed_of mark car rest ≡ later (length part) (passed_of mark (driven car part) behind) = onwards ∙ rw ((searched_prefix mark car part).never f) refl in
          rw (rw all at car_here) (record {
            good = driven_good car part g.good;
            some = omega (arith, few_here.0, g.some);
            ahead = omega (arith, g.ahead, lengths);
            same_car = sym (ap (driven car) on ∙ driven_append car part (searched mark (driven car part) behind)) ∙ g.same_car;
            whole = omega (arith, s, ap (seconds_of mark car) on ∙ seconds_append mark car part (searched mark (driven car part) behind), g.whole);
            number = sym (later_later before (length part) _) ∙ ap (later before) (sym p) ∙ g.number;
          })

      -- one did, and the search ends behind it
      pub seeking_found : t.found ≡ true → ◌≡◌ {A = Answer Marked} (gives (record { car = t.car; passed = Some (before + t.accepted + t.refused); seconds = count + t.seconds })) (gives (find_of mark first ws))
      unfolding find_of later onward
      seeking_found y =
          let f = sym found_here ∙ y in
          let on : searched mark car rest ≡ here = ap (searched mark car) split ∙ (searched_stops mark car part behind f).0 in
          let p : passed_of mark car rest ≡ Some (length here) = onwards ∙ rw ((searched_prefix mark car part).stopped f) refl in
          let n : Some (before + t.accepted + t.refused) ≡ passed_of mark first ws = ap Some (omega (arith, number_here)) ∙ (rw p at g.number) in
          let s : count + t.seconds ≡ seconds_of mark first (searched mark first ws) = omega (arith, seconds_here, ap (seconds_of mark car) on, g.whole) in
          let d : t.car ≡ driven first (searched mark first ws) = car_here ∙ ap (driven car) (sym on) ∙ g.same_car in
          cc

    -- none did in the whole lesson
    pub seeking_ends : length rest ≡ 0 → ◌≡◌ {A = Answer Marked} (gives (record { car = car; passed = None; seconds = count })) (gives (find_of mark first ws))
    unfolding find_of searched seconds_of driven passed_of later
    seeking_ends h =
        let gone : rest ≡ [] = nil_from_length rest h in
        let s : seconds_of mark first (searched mark first ws) ≡ count = omega (arith, rw gone at g.whole) in
        let n = rw gone at g.number in
        let d = rw gone at g.same_car in
        cc

-- ---- both: the words that the search drives, and those behind
module _ (mark : ℕ) (c : Car) (ws : List ℕ) (good : good_of c ≡ true) (f : Marked) (ef : gives f ≡ gives (find_of mark c ws)) where
  abbrev front : List ℕ
  front = searched mark c ws

  abbrev back : List ℕ
  back = (searched_prefix mark c ws).rest

  is_find : f ≡ find_of mark c ws
  is_find = cc

  -- the search has driven the words up to there
  from_front : unwrap_or f.passed (length ws) ≡ length front
  unfolding find_of
  from_front = rw is_find (go (found mark c ws) refl)
    where
      go : (p : Bool) → found mark c ws ≡ p → unwrap_or (find_of mark c ws).passed (length ws) ≡ length front
      go true h = rw ((searched_prefix mark c ws).stopped h) refl
      go false h = rw ((searched_prefix mark c ws).never h, (searched_prefix mark c ws).whole h) refl

  module _ (from : ℕ) (eb : from ≡ unwrap_or f.passed (length ws)) where
    pub from_within : from ≤ length ws
    from_within = omega (arith, eb, from_front, searched_few mark c ws)

    abbrev behind : List ℕ
    behind = take (length ws - from) (drop from ws)

    is_back : behind ≡ back
    is_back =
        take_all (length ws - from) (drop from ws) (omega (arith, length-drop from ws))
        ∙ ap (λ n. drop n ws) (eb ∙ from_front)
        ∙ ap (drop (length front)) (searched_prefix mark c ws).split
        ∙ drop-append_seam front back

    pub good_behind : good_of f.car ≡ true
    unfolding find_of
    good_behind = rw is_find (driven_good c front good)

    count_is : count_of mark f.car behind ≡ record { car = driven c ws; seconds = seconds_of mark (driven c front) back; refusal = 0 }
    unfolding find_of count_of
    count_is =
        pick_true _ _ _ good_behind
        ∙ rw (is_back, is_find, sym (driven_append c front back) ∙ ap (driven c) (sym (searched_prefix mark c ws).split)) refl

    pub no_refusal_behind : {A : Type 0} (r : Refusal) → count_answer f.car (Err r) ≡ count_of mark f.car behind → A
    no_refusal_behind r e = number_pos r _ (ap (λ (x : Counted). x.refusal) (e ∙ count_is)) refl

    module _ (t : code.Counted) (e : count_answer f.car (Ok t) ≡ count_of mark f.car behind) where
      sum : f.seconds + t.seconds ≡ seconds_of mark c ws
      unfolding find_of
      sum =
          let a : f.seconds ≡ seconds_of mark c front = rw is_find refl in
          let n : t.seconds ≡ seconds_of mark (driven c front) back = ap (λ (x : Counted). x.seconds) (e ∙ count_is) in
          omega (arith, a, n, ap (seconds_of mark c) (searched_prefix mark c ws).split ∙ seconds_append mark c front back)

      pub sum_few : f.seconds + t.seconds ≤ length ws
      sum_few = rw sum (few_seconds mark c ws)

      pub marked_all : record { car = t.car; passed = f.passed; seconds = f.seconds + t.seconds; refusal = 0 } ≡ mark_of mark c ws
      unfolding mark_of find_of
      marked_all =
          let d : t.car ≡ driven c ws = ap (λ (x : Counted). x.car) (e ∙ count_is) in
          let q : f.passed ≡ passed_of mark c ws = rw is_find refl in
          rw (d, q, sum) (sym (pick_true _ _ _ good))
