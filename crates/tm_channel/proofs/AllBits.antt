-- All bits at once.
use Rattle.std.proofs.Common.{◌≡◌, Bool, List, [], ◌++◌, length, take, drop, ap, ◌∙◌, subst, take-append-drop, None}
use Rattle.std.proofs.Math.Seq.{take-nil}
use Rattle.tm_base.specs.Pieces.{beyond}
use Rattle.tm_sync.specs.declared.found.Found.{Found}
use Rattle.tm_sync.proofs.Rescanned.{places_after-nil}
use Rattle.tm_config.specs.Configuration.{Configuration}
use Rattle.tm_codeblock.specs.ReceivedCodeblock.{rules_of, columns_of, places_in, sound_in}
use Rattle.tm_channel.specs.Items.{ItemValue, AreItemsOf, AreItems}
use Rattle.tm_channel.specs.Due.{in_batches, due_count, due}
use Rattle.tm_channel.proofs.Batches.{length-due}
use Rattle.tm_channel.proofs.Streaming.{items-append}

pub due-nil : (c : Configuration) → due c [] ≡ []
due-nil c =
    ap (λ (fs : List Found). take (in_batches c.batch (length fs)) fs)
    (places_after-nil (rules_of c) (columns_of c) (sound_in c []) 0 None)
    ∙ take-nil (in_batches c.batch 0)

pub due-then-last : (c : Configuration) (bits : List Bool) → due c bits
    ++ beyond (due c bits) (places_in c bits) ≡ places_in c bits
due-then-last c bits =
    let fs : List Found = places_in c bits in
    ap (λ n. due c bits ++ drop n fs) (length-due c bits) ∙ take-append-drop (due_count c bits) fs

pub all-items : (c : Configuration) (bits : List Bool) (items others : List ItemValue)
    → AreItemsOf c bits (due c bits) items → AreItemsOf c bits (beyond (due c bits) (places_in c bits)) others
    → AreItems c bits (items ++ others)
all-items c bits items others are also =
    subst (λ (fs : List Found). AreItemsOf c bits fs (items ++ others)) (due-then-last c bits)
    (items-append c bits (due c bits) (beyond (due c bits) (places_in c bits)) items others are also)
