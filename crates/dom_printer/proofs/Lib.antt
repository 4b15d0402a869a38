mod Cutting
mod KeepLaws
mod PlainLaws
mod PutLaws
mod TreeLaws
