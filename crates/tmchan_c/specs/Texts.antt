-- What the answers of calls mean, in words.
use Rattle.std.specs.Prelude.{ℕ, ℤ, pos, negsuc, List, [], ◌∷◌, ◌++◌, get_or, replicate, codes}

-- octets in which each sentence has room, and a 0 after it
abbrev pub text_room : ℕ
text_room = 96

-- of answers that no call gives
abbrev pub no_text : List ℕ
no_text = codes "no such answer"

-- of the answers below 0: of -1 first
abbrev pub refusal_texts : List (List ℕ)
refusal_texts =
    codes "no codeword lies within the repair bound"
    ∷ codes "an array is too long or too short, or does not fit the others"
    ∷ codes "there are not as many flags as symbols"
    ∷ codes "the index of the column is not below the depth"
    ∷ codes "the stream is closed, or one of another kind is open"
    ∷ codes "the stream is open already"
    ∷ codes "there is not enough memory"
    ∷ codes "a number behind the options that this library has is not 0"
    ∷ replicate 7 no_text
    ++ codes "the code is none of rs16, rs8 and none"
    ∷ codes "the depth is none of 1, 2, 3, 4, 5 and 8, or it is not 1 and there is no code"
    ∷ codes "no word, or no frame, of this code and depth is so long"
    ∷ codes "the rate is none of none, 1/2, 2/3, 3/4, 5/6 and 7/8"
    ∷ codes "invert or randomize is neither on nor off"
    ∷ codes "the basis is neither dual nor poly"
    ∷ codes "the tolerance is not from 0 to 8"
    ∷ codes "the repair bound is not from 0 to the most that the code repairs"
    ∷ codes "the soft form is neither u8 nor i8"
    ∷ codes "the start is neither zero nor any"
    ∷ codes "not from 0 to 15 symbols are skipped"
    ∷ codes "not from 1 to 64 workers"
    ∷ codes "the limit is not from 1 to 2^40"
    ∷ codes "not from 0 to 15 markers in a row may be missing"
    ∷ codes "not from 64 to 65536 steps of a window are kept"
    ∷ codes "not from 0 to 4096 steps follow those that are kept"
    ∷ codes "the phase is none of given, find and follow"
    ∷ codes "the polarity is neither given nor find"
    ∷ codes "not from 1 to 4096 codeblocks are handed over at once"
    ∷ codes "pack is neither on nor off"
    ∷ codes "not from 0 to 7 further markers are to match"
    ∷ codes "rescan is neither on nor off"
    ∷ codes "bad is neither drop nor pass"
    ∷ []

abbrev pub text_of : ℤ → List ℕ
text_of (pos n) = codes "done"
text_of (negsuc n) = get_or refusal_texts n no_text
