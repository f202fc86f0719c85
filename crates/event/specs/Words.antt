-- Event words: document 01, "Event words", and the checks 1, 2 and 3 of "From file, pupil, radar, clock and caller", with document 02's 24 (§12).
-- Assumes nothing.
use Rattle.std.specs.Prelude.{Bool, true, ◌&&◌, ◌||◌, not, ℕ, ◌+◌, ◌*◌, ◌/◌, ◌%◌, eqb, leb, ltb}
use Rattle.kit.specs.Answer.{Answer, gives, refused}
use Rattle.kit.specs.Bounds.{pedal_ceiling, speed_ceiling}
use Rattle.kit.specs.Pick.{pick}
use Rattle.event.specs.declared.Input.{Input}
use Rattle.event.specs.declared.Input.TheVariants.{Key, UpDown, ForeBack, Brake, Gas, Button, Gap, Sign, Radar}
use Rattle.event.specs.declared.Event.{Event}
use Rattle.event.specs.declared.Event.TheVariants as event

-- "The top four bits choose among ten kinds": a word's kind, and its body, the 28 bits below
abbrev pub kind_of : ℕ → ℕ
kind_of w = w / 268435456

abbrev pub body_of : ℕ → ℕ
body_of w = w % 268435456

-- the kind of an input
unfoldable pub input_kind : Input → ℕ
input_kind (Key position ready) = 1
input_kind (UpDown x) = 2
input_kind (ForeBack x) = 3
input_kind (Brake x) = 4
input_kind (Gas x) = 5
input_kind (Button limit) = 6
input_kind (Gap tenths) = 7
input_kind (Sign s) = 8
input_kind (Radar range speed) = 9

-- "G chosen gap in tenths of a second: 20, 25", and no more the longest: "No car in the showroom offers 3.0 seconds any more"
unfoldable pub permitted_gap : ℕ → Bool
permitted_gap n = eqb n 20 || eqb n 25

-- every value in its field's range
unfoldable pub input_range : Input → Bool
input_range (Key position ready) = leb position 2
input_range (UpDown x) = leb x 4
input_range (ForeBack x) = leb x 2
input_range (Brake x) = leb x pedal_ceiling
input_range (Gas x) = leb x pedal_ceiling
input_range (Button limit) = leb limit speed_ceiling
input_range (Gap tenths) = permitted_gap tenths
input_range (Sign s) = leb s 2000
input_range (Radar range speed) = leb range 254 && leb speed speed_ceiling

unfoldable pub in_range : Event → Bool
in_range (event.Input i) = input_range i
in_range (event.Tick ready) = true

-- what a value outside its field's range is refused with: 3, but "24, and not 3, the gap choice 30"
unfoldable pub range_refusal : Input → ℕ
range_refusal (Gap tenths) = pick (eqb tenths 30) 24 3
range_refusal i = 3

-- 2: an unnamed bit set, in a body whose kind's named bits are those below `named`; else 0
unfoldable pub unnamed_of : ℕ → ℕ → ℕ
unnamed_of named x = pick (leb named x) 2 0

-- 2, then 3 or 24: a value outside its field's range
unfoldable pub judged : ℕ → ℕ → Input → Answer Input
judged named x i =
    pick (leb named x) (refused 2)
    (pick (not (input_range i)) (refused (range_refusal i))
    (gives i))

-- "1 key: bits 0-1 the key (0..2), bit 2 ready"
unfoldable pub key_word : ℕ → Answer Input
key_word x = judged 8 x (Key (x % 4) (eqb (x / 4) 1))

-- "9 radar: bits 0-7 range (0..254), bits 8-20 speed ahead"
unfoldable pub radar_word : ℕ → Answer Input
radar_word x = judged 2097152 x (Radar (x % 256) (x / 256))

-- kinds 4 to 9, which need the key on. "4 brake, 5 gas: bits 0-7. 6 button: bits 0-12, the limit. 7 gap: bits 0-4. 8 sign: bits 0-10 (0..2000)"
unfoldable pub key_on_of : ℕ → ℕ → Answer Input
key_on_of k x =
    pick (eqb k 4) (judged 256 x (Brake x))
    (pick (eqb k 5) (judged 256 x (Gas x))
    (pick (eqb k 6) (judged 8192 x (Button x))
    (pick (eqb k 7) (judged 32 x (Gap x))
    (pick (eqb k 8) (judged 2048 x (Sign x))
    (radar_word x)))))

-- the kinds beside the tick. "2 L: bits 0-2. 3 M: bits 0-1". 1: no such kind
unfoldable pub inputs_of : ℕ → ℕ → Answer Input
inputs_of k x =
    pick (eqb k 1) (key_word x)
    (pick (eqb k 2) (judged 8 x (UpDown x))
    (pick (eqb k 3) (judged 4 x (ForeBack x))
    (pick (leb 4 k && ltb k 10) (key_on_of k x)
    (refused 1))))

unfoldable pub input_of : ℕ → Answer Input
input_of w = inputs_of (kind_of w) (body_of w)

-- "10 tick: bit 0 ready"
abbrev pub ready_of : ℕ → Bool
ready_of x = eqb x 1

unfoldable pub tick_word : ℕ → Answer Event
tick_word x = pick (leb 2 x) (refused 2) (gives (event.Tick (ready_of x)))

-- a word read: the event, or the first check that holds
unfoldable pub input_event : Answer Input → Answer Event
input_event (gives i) = gives (event.Input i)
input_event (refused n) = refused n

unfoldable pub read_of : ℕ → Answer Event
read_of w = pick (eqb (kind_of w) 10) (tick_word (body_of w)) (input_event (input_of w))

-- a flag's bit
unfoldable pub bit_of : Bool → ℕ
bit_of b = pick b 1 0

-- "An event is also written as its word"
unfoldable pub input_word : Input → ℕ
input_word (Key position ready) = 268435456 + position + 4 * bit_of ready
input_word (UpDown x) = 2 * 268435456 + x
input_word (ForeBack x) = 3 * 268435456 + x
input_word (Brake x) = 4 * 268435456 + x
input_word (Gas x) = 5 * 268435456 + x
input_word (Button limit) = 6 * 268435456 + limit
input_word (Gap tenths) = 7 * 268435456 + tenths
input_word (Sign s) = 8 * 268435456 + s
input_word (Radar range speed) = 9 * 268435456 + range + 256 * speed

unfoldable pub word_of : Event → ℕ
word_of (event.Input i) = input_word i
word_of (event.Tick ready) = 10 * 268435456 + bit_of ready

-- "one with a value that check 3 refuses gives 3 and no word"; 24 "given for writing such an event too". A tick has no value outside a range
abbrev pub input_writing : Input → Answer ℕ
input_writing i = pick (not (input_range i)) (refused (range_refusal i)) (gives (input_word i))

unfoldable pub write_of : Event → Answer ℕ
write_of (event.Input i) = input_writing i
write_of (event.Tick ready) = gives (word_of (event.Tick ready))
