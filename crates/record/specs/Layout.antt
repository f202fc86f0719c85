-- The record's layout: document 01, "The record", and document 02, §11.
-- Assumes nothing.
use Rattle.std.specs.Prelude.{Bool, List, [], ◌∷◌, ℕ, suc, ◌+◌, ◌-◌, ◌*◌, ◌/◌, ◌%◌, ◌^◌, eqb, get_or}
use Rattle.event.specs.Words.{bit_of}
use Rattle.car.specs.declared.Car.{Car}

-- a field of a word: its width in bits, and its value in a car
pub record Field : Type 0 where
  pub width : ℕ
  pub value : Car → ℕ

abbrev pub bits : ℕ → (Car → ℕ) → Field
bits n f = record { width = n; value = f }

-- "else one bit": 1 or 0
abbrev pub flag : (Car → Bool) → Field
flag f = record { width = 1; value = λ c. bit_of (f c) }

-- "Bits from 0, widths in brackets, else one bit: 0: mode (2), signs, key (2), L (3), M (2), H, S, C, P. 1: b (8), g (8). 2: v. 3: Z (13
-- each). 4: D (11), E (11). 5: T (17). 6: B (11). 7: R (8), W (13). 8: Y (13). 9: G (5). 10: now. 11: Q (17 each)." And "towing, .. bit 14 of a
-- record's word 0"
abbrev pub layout : List (List Field)
layout =
    -- 0: mode (2), signs, key (2), L (3), M (2), H, S, C, P, towing
    (bits 2 (λ c. c.settings.mode) ∷ flag (λ c. c.settings.signs) ∷ bits 2 (λ c. c.key)
    ∷ bits 3 (λ c. c.levers.updown) ∷ bits 2 (λ c. c.levers.foreback)
    ∷ flag (λ c. c.limiter.button) ∷ flag (λ c. c.limiter.on) ∷ flag (λ c. c.cruise.on) ∷ flag (λ c. c.radar.ready)
    ∷ flag (λ c. c.settings.towing) ∷ [])
    -- 1: b (8), g (8)
    ∷ (bits 8 (λ c. c.pedals.brake) ∷ bits 8 (λ c. c.pedals.gas) ∷ [])
    -- 2: v. 3: Z (13 each)
    ∷ (bits 13 (λ c. c.speed) ∷ [])
    ∷ (bits 13 (λ c. c.limiter.limit) ∷ [])
    -- 4: D (11), E (11)
    ∷ (bits 11 (λ c. c.cruise.desired) ∷ bits 11 (λ c. c.cruise.manual) ∷ [])
    -- 5: T (17)
    ∷ (bits 17 (λ c. c.levers.time) ∷ [])
    -- 6: B (11)
    ∷ (bits 11 (λ c. c.levers.base) ∷ [])
    -- 7: R (8), W (13)
    ∷ (bits 8 (λ c. c.radar.range) ∷ bits 13 (λ c. c.radar.lead) ∷ [])
    -- 8: Y (13)
    ∷ (bits 13 (λ c. c.radar.earlier) ∷ [])
    -- 9: G (5)
    ∷ (bits 5 (λ c. c.gap) ∷ [])
    -- 10: now. 11: Q (17 each)
    ∷ (bits 17 (λ c. c.now) ∷ [])
    ∷ (bits 17 (λ c. c.radar.tested) ∷ [])
    ∷ []

-- ---- a word's parts
-- "bits 28-31": a word has 32 bits, so these are all from bit 28 up
abbrev pub mark_of : ℕ → ℕ
mark_of w = w / 2 ^ 28

-- "bits 24-27"
abbrev pub place_of : ℕ → ℕ
place_of w = w / 2 ^ 24 % 2 ^ 4

-- how many bits the layout names, from bit 0
abbrev pub named : List Field → ℕ
named [] = 0
named (f ∷ fs) = named fs + f.width

-- the bits below 24 that it does not name
abbrev pub unnamed_of : List Field → ℕ → ℕ
unnamed_of fs w = w / 2 ^ named fs % 2 ^ (24 - named fs)

-- ---- a car's words
-- fields side by side from bit 0; the bits above them are 0
abbrev pub joined : Car → List Field → ℕ
joined c [] = 0
joined c (f ∷ fs) = f.value c + 2 ^ f.width * joined c fs

-- "Each: bits 28-31 are 11, bits 24-27 its place 0..11"
abbrev pub headed : ℕ → ℕ → ℕ
headed place body = 11 * 2 ^ 28 + place * 2 ^ 24 + body

-- a car's word at a place
abbrev pub word_of : Car → ℕ → ℕ
word_of c place = headed place (joined c (get_or layout place []))

-- the words of the layout's rows, from a place on
abbrev pub words_from : Car → ℕ → List (List Field) → List ℕ
words_from c place [] = []
words_from c place (fs ∷ rows) = headed place (joined c fs) ∷ words_from c (suc place) rows

unfoldable pub packed : Car → List ℕ
packed c = words_from c 0 layout

-- ---- the car that words give
-- a word's fields from bit 0
abbrev pub fields : List Field → ℕ → List ℕ
fields [] w = []
fields (f ∷ fs) w = w % 2 ^ f.width ∷ fields fs (w / 2 ^ f.width)

-- the fields of the words at the layout's rows, from a place on
abbrev pub fields_from : ℕ → List (List Field) → List ℕ → List (List ℕ)
fields_from place [] ws = []
fields_from place (fs ∷ rows) ws = fields fs (get_or ws place 0) ∷ fields_from (suc place) rows ws

-- the car of a table of values: `at p k` is the value of field k of word p, both counted from 0 as in the layout
unfoldable pub car_of : List (List ℕ) → Car
car_of table =
    record {
      settings = record { mode = at 0 0; signs = eqb (at 0 1) 1; towing = eqb (at 0 9) 1 };
      key = at 0 2;
      levers = record { updown = at 0 3; foreback = at 0 4; time = at 5 0; base = at 6 0 };
      pedals = record { brake = at 1 0; gas = at 1 1 };
      limiter = record { button = eqb (at 0 5) 1; on = eqb (at 0 6) 1; limit = at 3 0 };
      cruise = record { on = eqb (at 0 7) 1; desired = at 4 0; manual = at 4 1 };
      radar = record { ready = eqb (at 0 8) 1; range = at 7 0; lead = at 7 1; earlier = at 8 0; tested = at 11 0 };
      gap = at 9 0;
      speed = at 2 0;
      now = at 10 0;
    }
  where
    at : ℕ → ℕ → ℕ
    at p k = get_or (get_or table p []) k 0

unfoldable pub unpacked : List ℕ → Car
unpacked ws = car_of (fields_from 0 layout ws)
