-- The draws of a generator one after another, and what they change.
use Rattle.std.proofs.Common.{◌≡◌, ℕ, zero, suc, ◌+◌, ◌-◌, ◌*◌, ◌%◌, ◌<◌, ◌≤◌, List, [], ◌∷◌, ◌++◌, length, map, take, drop, set, get_or, refl, sym, ap, ◌∙◌, arith, length-drop, zero-add, add-one, suc-add, bit_xor}
use borrow.Rule.Slice.PartMut.{put_mid}
use Rattle.std.specs.List.{range_with_len}
use Rattle.std.proofs.Math.Nat.{mul-le-mul_left}
use Rattle.std.proofs.Math.Seq.{take-suc-set}
use Rattle.std.proofs.lemmas.Nat.{mod_below}
use Rattle.std.proofs.lemmas.List.{append-nil, drop_all}
use Rattle.std.proofs.lemmas.List.FromFn.{map-range_with_len_more}
use Rattle.rand_pcg.specs.Lcg.{Lcg, next_state, state_after}
use Rattle.rand_pcg.specs.Pcg.{multiplier_64, pcg32}
use Rattle.rand_pcg.proofs.LcgLemmas.{advance_zero}
use Rattle.tm_config.specs.Accepted.{IsAccepted}
use Rattle.tm_config.specs.Configuration.{Configuration, word_length, codeblock_length}
use Rattle.tm_codeblock.specs.Cadu.{cadu}
use Rattle.tm_cli.specs.Generated.{drawn, draw, drawn_octets, changed, changed_column, changed_columns, generated_unit, draw_count, generated_units}

-- ---- draws

pub drawn-none : (g : Lcg) → g ≡ drawn 0 g
drawn-none g = sym (advance_zero 64 multiplier_64 g)

state-more : (w m p n s : ℕ) → next_state w m p (state_after w m p n s) ≡ state_after w m p (suc n) s
unfolding state_after
state-more w m p zero s = refl
state-more w m p (suc n) s = state-more w m p n (next_state w m p s)

state-after : (w m p a b s : ℕ) → state_after w m p a (state_after w m p b s) ≡ state_after w m p (b + a) s
unfolding state_after
state-after w m p a zero s = ap (λ (k : ℕ). state_after w m p k s) (sym (zero-add a))
state-after w m p a (suc b) s =
    state-after w m p a b (next_state w m p s) ∙ ap (λ (k : ℕ). state_after w m p k s) (sym (suc-add b a))

-- one draw more
pub drawn-more : (n : ℕ) (g : Lcg) → (pcg32 (drawn n g)).1 ≡ drawn (n + 1) g
drawn-more n g =
    ap (λ (s : ℕ). record g { state = s })
    (state-more 64 multiplier_64 g.increment n g.state ∙ ap
    (λ (k : ℕ). state_after 64 multiplier_64 g.increment k g.state) (sym (add-one n)))

pub drawn-drawn : (a b : ℕ) (g : Lcg) → drawn a (drawn b g) ≡ drawn (b + a) g
drawn-drawn a b g = ap (λ (s : ℕ). record g { state = s }) (state-after 64 multiplier_64 g.increment a b g.state)

-- what a generator that follows `n` draws gives, and where it stands then
pub given : (n : ℕ) (g at now : Lcg) (word : ℕ) → at ≡ drawn n g → (word, now) ≡ pcg32 at → word ≡ draw g n
given n g at now word is drew = ap (λ (p : ℕ × Lcg). p.0) drew ∙ ap (λ (h : Lcg). (pcg32 h).0) is

pub stands : (n : ℕ) (g at now : Lcg) (word : ℕ) → at ≡ drawn n g → (word, now) ≡ pcg32 at → now ≡ drawn (n + 1) g
stands n g at now word is drew = ap (λ (p : ℕ × Lcg). p.1) drew ∙ ap (λ (h : Lcg). (pcg32 h).1) is ∙ drawn-more n g

-- ---- octets

pub octets-none : (g : Lcg) (octets : List ℕ) → take 0 octets ≡ drawn_octets 0 g
unfolding drawn_octets
octets-none g octets = refl

pub octets-more : (g : Lcg) (octets : List ℕ) (i octet : ℕ) → i < length octets → octet ≡ draw g i % 256
    → take i octets ≡ drawn_octets i g
    → take (i + 1) (set octets i octet) ≡ drawn_octets (i + 1) g
unfolding drawn_octets
octets-more g octets i octet below is done =
    ap (λ (k : ℕ). take k (set octets i octet)) (add-one i) ∙ take-suc-set octets i octet below
    ∙ ap (λ (l : List ℕ). l ++ octet ∷ []) done
    ∙ ap (λ (n : ℕ). map (λ index. draw g index % 256) (range_with_len 0 i) ++ n ∷ []) is
    ∙ sym (map-range_with_len_more (λ index. draw g index % 256) 0 i i (zero-add i))

-- ---- columns

pub column-none : (c : Configuration) (column : ℕ) (g : Lcg) (codeblock : List ℕ)
    → codeblock ≡ changed_column c column 0 g codeblock
unfolding changed_column
column-none c column g codeblock = refl

pub column-more : (c : Configuration) (column k place change : ℕ) (g : Lcg) (codeblock now : List ℕ)
    → now ≡ changed_column c column k g codeblock
    → place ≡ column + c.depth * ((draw g 0 + k) % word_length c) → change ≡ 1 + draw g (k + 1) % 255
    → set now place (bit_xor (get_or now place 0) change) ≡ changed_column c column (k + 1) g codeblock
unfolding changed_column
column-more c column k place change g codeblock now is at by =
    ap (λ (l : List ℕ). set l place (bit_xor (get_or l place 0) change)) is
    ∙ ap (λ (p : ℕ). set (changed_column c column k g codeblock) p
    (bit_xor (get_or (changed_column c column k g codeblock) p 0) change)) at
    ∙ ap (λ (x : ℕ). changed (column + c.depth * ((draw g 0 + k) % word_length c)) x
    (changed_column c column k g codeblock)) by
    ∙ ap (λ (n : ℕ). changed_column c column n g codeblock) (sym (add-one k))

-- a symbol of a column stands inside the codeblock
pub place-inside : (c : Configuration) (column depth size row bytes : ℕ) → IsAccepted c → column < c.depth
    → depth ≡ c.depth → size ≡ word_length c → bytes ≡ codeblock_length c
    → column + depth * (row % size) < bytes
place-inside c column depth size row bytes accepted inside deep long all =
    let below : row % size < size = mod_below row size (omega (arith, long, accepted.some_data)) in
    let more : depth * (row % size + 1) ≤ depth * size = mul-le-mul_left depth (omega arith) in
    let whole : bytes ≡ depth * size = all ∙ ap (λ (d : ℕ). d * word_length c) (sym deep)
    ∙ ap (λ (n : ℕ). depth * n) (sym long) in
    omega (arith, more, whole, inside, deep)

pub columns-none : (c : Configuration) (hits : ℕ) (g : Lcg) (codeblock : List ℕ)
    → codeblock ≡ changed_columns c 0 hits g codeblock
unfolding changed_columns
columns-none c hits g codeblock = refl

pub columns-more : (c : Configuration) (column hits : ℕ) (g at : Lcg) (codeblock now : List ℕ)
    → now ≡ changed_columns c column hits g codeblock → at ≡ drawn (column * (hits + 1)) g
    → changed_column c column hits at now ≡ changed_columns c (column + 1) hits g codeblock
unfolding changed_columns
columns-more c column hits g at codeblock now is stand =
    ap (λ (l : List ℕ). changed_column c column hits at l) is
    ∙ ap (λ (h : Lcg). changed_column c column hits h (changed_columns c column hits g codeblock)) stand
    ∙ ap (λ (n : ℕ). changed_columns c n hits g codeblock) (sym (add-one column))

pub draws-more : (column hits : ℕ) (g at now : Lcg) → at ≡ drawn (column * (hits + 1)) g → now ≡ drawn (hits + 1) at
    → now ≡ drawn ((column + 1) * (hits + 1)) g
draws-more column hits g at now is drew =
    let sum : column * (hits + 1) + (hits + 1) ≡ (column + 1) * (hits + 1) = omega arith in
    drew ∙ ap (drawn (hits + 1)) is ∙ drawn-drawn (hits + 1) (column * (hits + 1)) g ∙ ap (λ (n : ℕ). drawn n g) sum

-- ---- units

-- what is written after the marker
pub after-marker : (unit codeblock : List ℕ) → put_mid 4 (length unit - 4) unit codeblock ≡ take 4 unit ++ codeblock
after-marker unit codeblock =
    ap (λ (l : List ℕ). take 4 unit ++ (codeblock ++ l)) (drop_all (length unit - 4) (drop 4 unit)
    (omega (arith, length-drop 4 unit)))
    ∙ ap (λ (l : List ℕ). take 4 unit ++ l) (append-nil codeblock)

-- the codeblock after the marker is changed
pub unit-is : (c : Configuration) (hits : ℕ) (g after : Lcg) (frame unit now codeblock : List ℕ)
    → frame ≡ drawn_octets c.frame_length g → unit ≡ cadu c frame
    → after ≡ drawn c.frame_length g → codeblock ≡ changed_columns c c.depth hits after (drop 4 unit)
    → now ≡ take 4 unit ++ codeblock
    → now ≡ generated_unit c hits g
unfolding generated_unit cadu
unit-is c hits g after frame unit now codeblock drew made stand change is =
    is ∙ ap (λ (l : List ℕ). take 4 unit ++ l) change
    ∙ ap (λ (l : List ℕ). take 4 l ++ changed_columns c c.depth hits after (drop 4 l)) made
    ∙ ap (λ (l : List ℕ). take 4 (cadu c l) ++ changed_columns c c.depth hits after (drop 4 (cadu c l))) drew
    ∙ ap (λ (h : Lcg). take 4 (cadu c (drawn_octets c.frame_length g))
    ++ changed_columns c c.depth hits h (drop 4 (cadu c (drawn_octets c.frame_length g)))) stand

pub draws-unit : (c : Configuration) (hits : ℕ) (g after now : Lcg) → after ≡ drawn c.frame_length g
    → now ≡ drawn (c.depth * (hits + 1)) after → now ≡ drawn (draw_count c hits) g
draws-unit c hits g after now is drew =
    drew ∙ ap (drawn (c.depth * (hits + 1))) is ∙ drawn-drawn (c.depth * (hits + 1)) c.frame_length g

pub units-none : (c : Configuration) (hits : ℕ) (g : Lcg) → generated_units c 0 hits g ≡ []
unfolding generated_units
units-none c hits g = refl

pub units-more : (c : Configuration) (frame hits : ℕ) (g at : Lcg) → at ≡ drawn (frame * draw_count c hits) g
    → generated_units c frame hits g ++ generated_unit c hits at ≡ generated_units c (frame + 1) hits g
unfolding generated_units
units-more c frame hits g at stand =
    ap (λ (h : Lcg). generated_units c frame hits g ++ generated_unit c hits h) stand
    ∙ ap (λ (n : ℕ). generated_units c n hits g) (sym (add-one frame))

pub draws-frames : (c : Configuration) (frame hits : ℕ) (g at now : Lcg) → at ≡ drawn (frame * draw_count c hits) g
    → now ≡ drawn (draw_count c hits) at
    → now ≡ drawn ((frame + 1) * draw_count c hits) g
draws-frames c frame hits g at now is drew =
    let sum : frame * draw_count c hits + draw_count c hits ≡ (frame + 1) * draw_count c hits = omega arith in
    drew ∙ ap (drawn (draw_count c hits)) is ∙ drawn-drawn (draw_count c hits) (frame * draw_count c hits) g
    ∙ ap (λ (n : ℕ). drawn n g) sum
