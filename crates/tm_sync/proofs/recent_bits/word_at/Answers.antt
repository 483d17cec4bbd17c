use Rattle.std.proofs.Common.{◌≡◌, ◌+◌, ◌-◌, ◌*◌, ◌/◌, ◌%◌, ◌^◌, ◌<◌, ℕ, List, length, take, drop, get_or, ap, sym, ◌∙◌, arith, subst, length-drop}
use Rattle.std.proofs.lemmas.List.{take_rest, drop-drop, get_or-drop}
use Rattle.tm_base.specs.Bits.{bits_of, low_bits, number_of}
use Rattle.tm_base.proofs.Packing.{number_of-low_bits, bits_of-take, bits_of-drop}
use Rattle.tm_sync.proofs.PackedBits.{bits-from-whole, five-octets, word-bits}
use Rattle.tm_sync.proofs.recent_bits.word_at.Goals as goal

pub returns-then-shift-eq0 : goal.returns-then-shift-eq0
returns-then-shift-eq0 c =
    let room = c.args.room.now in
    let at = c.args.at in
    let octets : List ℕ = drop (at / 8) room in
    let first : low_bits 32 c.first_word-word.result ≡ bits_of (take 4 octets) =
    c.first_word-word.ensures
    ∙ ap (λ l. bits_of (take 4 l)) (take_rest room (at / 8)) in
    let small : c.first_word-word.result < 4294967296 = c.first_word-word.type_inv in
    let all : c.first_word-word.result ≡ c.first_word-word.result % 2 ^ 32 = omega arith in
    all ∙ sym (number_of-low_bits 32 c.first_word-word.result)
    ∙ ap number_of (first ∙ bits_of-take 4 octets
    ∙ ap (take 32) (sym (bits-from-whole room at c.if-shift-eq0.true)))

pub returns : goal.returns
returns c =
    let room = c.args.room.now in
    let at = c.args.at in
    let octets : List ℕ = drop (at / 8) room in
    let left = length-drop (at / 8) room in
    let number : ℕ = c.from.result * 256 + c.from-2.result in
    let shift : ℕ = at % 8 in
    let rest : take (length room - at / 8) octets ≡ octets = take_rest room (at / 8) in
    let first : low_bits 32 c.first_word-word.result ≡ bits_of (take 4 octets) =
    c.first_word-word.ensures
    ∙ ap (λ l. bits_of (take 4 l)) rest in
    let five : low_bits 40 number ≡ bits_of (take 5 octets) =
    (λ i. low_bits 40 (c.from.ensures i * 256 + (c.from-2.ensures ∙ ap (λ l. get_or l 4 0) rest) i))
    ∙ five-octets octets c.first_word-word.result (omega arith)
    (subst (λ n. n < 256) (sym (get_or-drop (at / 8) room 4 0))
    (c.type_inv.room (at / 8 + 4)).fits) first in
    let parts : 8 * (at / 8) + shift ≡ at = omega arith in
    c.window.ensures
    ∙ sym (number_of-low_bits 32 (number / 2 ^ (8 - shift)))
    ∙ ap number_of (sym (word-bits octets number shift (omega arith) five)
    ∙ ap (λ l. take 32 (drop shift l)) (bits_of-drop (at / 8) room)
    ∙ ap (take 32) (drop-drop shift (8 * (at / 8)) (bits_of room)
    ∙ ap (λ n. drop n (bits_of room)) parts))
