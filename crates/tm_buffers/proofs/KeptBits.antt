-- Bits of one block after another, in a buffer.
use Rattle.std.proofs.Common.{◌≡◌, ◌∙◌, ◌≤◌, ℕ, List, [], ◌∷◌, ◌++◌, length, refl, sym, ap, arith, length-take, Some}
use Rattle.std.proofs.lemmas.Fn.{chained_keeps}
use Rattle.std.proofs.lemmas.Grind.{common_steps}
use Rattle.tm_base.specs.Handed.{Handed, Item, Phase, items_of}
use Rattle.tm_base.specs.Takers.{HandedOver}
use Rattle.tm_inner.proofs.DueBits.{kept-append}
use Rattle.tm_viterbi.specs.Clean.{kept_bits}
use Rattle.tm_viterbi.specs.WindowBlock.{WindowBlock}
use Rattle.tm_inner.specs.declared.window.Window.{Window}
use Rattle.tm_buffers.specs.Buffer.{Fills}
use Rattle.tm_buffers.specs.Decoding.{BitsAt, HoldsBits, bits_at, keeps_bits, keeps_handed, watches, writes}
use Rattle.tm_buffers.specs.declared.bits.BufferBits.{BufferBits}
use Rattle.tm_buffers.proofs.Over.{handed-items}

kept-more : (size : ℕ) (blocks : List WindowBlock) (a : BitsAt) (x : WindowBlock) (b : BitsAt)
    → HoldsBits size (kept_bits blocks) a → keeps_bits a x b → HoldsBits size (kept_bits (blocks ++ x ∷ [])) b
kept-more size blocks a x b h keeps =
    let k = keeps size (kept_bits blocks) h in grind (arith, common_steps, kept-append, k)

kept-holds : (buffer buffer' : List ℕ) (count : ℕ) (more : List (Handed WindowBlock))
    → HandedOver keeps_handed (bits_at 0 buffer) more (bits_at count buffer')
    → HoldsBits (length buffer) (kept_bits (items_of more)) (bits_at count buffer')
kept-holds buffer buffer' count more handed =
    chained_keeps keeps_bits (λ blocks. HoldsBits (length buffer) (kept_bits blocks)) (kept-more (length buffer))
    (items_of more) (bits_at 0 buffer) (bits_at count buffer') (record { long = refl; hold = λ _. refl })
    (handed-items keeps_bits (bits_at 0 buffer) (bits_at count buffer') more handed)

pub kept-long : (buffer buffer' : List ℕ) (count : ℕ) (more : List (Handed WindowBlock))
    → HandedOver keeps_handed (bits_at 0 buffer) more (bits_at count buffer') → length buffer' ≡ length buffer
kept-long buffer buffer' count more handed = (kept-holds buffer buffer' count more handed).long

-- what was kept fills the start of the buffer, where that had no bits before
pub kept-fills : (buffer buffer' : List ℕ) (count : ℕ) (more : List (Handed WindowBlock))
    → HandedOver keeps_handed (bits_at 0 buffer) more (bits_at count buffer') → count ≤ length buffer'
    → length (kept_bits (items_of more)) ≤ length buffer
    → Fills (Some count) buffer' (kept_bits (items_of more))
kept-fills buffer buffer' count more handed within fits =
    let is = (kept-holds buffer buffer' count more handed).hold fits in
    (omega (arith, ap length is, length-take count buffer', within), is)

-- ---- by what is lent

pub written-bits : {W : Type 0} (more : List (Handed WindowBlock)) (a b : BufferBits W) → HandedOver writes a more b
    → (b.bits.ghost_name ≡ a.bits.ghost_name)
    × HandedOver keeps_handed (bits_at a.count a.bits.now) more (bits_at b.count b.bits.now)
written-bits [] a b same = (ap (λ w. w.bits.ghost_name) (sym same), ap (λ w. bits_at w.count w.bits.now) same)
written-bits (Phase skip cost ∷ more) a b h =
    let m = h.0 in
    let rest = written-bits more m b h.2 in (
      rest.0 ∙ ap (λ w. w.bits.ghost_name) h.1,
      (bits_at m.count m.bits.now, ap (λ w. bits_at w.count w.bits.now) h.1, rest.1),
    )
written-bits (Item block ∷ more) a b h =
    let m = h.0 in
    let rest = written-bits more m b h.2 in
    (rest.0 ∙ h.1.0, (bits_at m.count m.bits.now, h.1.1, rest.1))

pub watched-windows : {W : Type 0} (took : W → Window → W → Type 0) (windows : List Window) (a b : BufferBits W)
    → HandedOver (watches took) a windows b → (b.watch.ghost_name ≡ a.watch.ghost_name)
    × HandedOver took a.watch.now windows b.watch.now
watched-windows took [] a b same = (ap (λ w. w.watch.ghost_name) (sym same), ap (λ w. w.watch.now) same)
watched-windows took (window ∷ windows) a b h =
    let m = h.0 in
    let rest = watched-windows took windows m b h.2 in (rest.0 ∙ h.1.0, (m.watch.now, h.1.1, rest.1))
