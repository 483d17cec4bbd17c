-- Items that are handed over, one after the other.
use Rattle.std.proofs.Common.{◌≡◌, ℕ, ◌+◌, ◌<◌, List, [], ◌∷◌, ◌++◌, length, take, sym, ap, ◌∙◌, subst}
use Rattle.std.proofs.lemmas.List.{take_more}
use Rattle.tm_config.specs.Configuration.{Configuration}
use Rattle.tm_channel.specs.Items.{ItemValue}
use Rattle.tm_channel.specs.Receiving.{StoredCodeblock, AreItemsFor, IsItemAt}

pub items-for-append : (c : Configuration) (stored more : List StoredCodeblock) (items others : List ItemValue)
    → AreItemsFor c stored items → AreItemsFor c more others → AreItemsFor c (stored ++ more) (items ++ others)
items-for-append c [] more [] others are also = also
items-for-append c [] more (item ∷ items) others are also = absurd are
items-for-append c (k ∷ stored) more [] others are also = absurd are
items-for-append c (k ∷ stored) more (item ∷ items) others are also =
    (are.0, items-for-append c stored more items others are.1 also)

-- the item of one more codeblock
pub items-for-more : (c : Configuration) (stored : List StoredCodeblock) (index : ℕ) (items : List ItemValue)
    (item : ItemValue) → index < length stored
    → AreItemsFor c (take index stored) items → IsItemAt c stored index item
    → AreItemsFor c (take (index + 1) stored) (items ++ item ∷ [])
items-for-more c stored index items item below are one =
    let grows : take (index + 1) stored ≡ take index stored ++ one.0 ∷ [] = take_more stored index one.0 below
    ∙ ap (λ k. take index stored ++ k ∷ []) one.1 in
    subst (λ (ks : List StoredCodeblock). AreItemsFor c ks (items ++ item ∷ [])) (sym grows)
    (items-for-append c (take index stored) (one.0 ∷ []) items (item ∷ []) are (one.2, tt))
