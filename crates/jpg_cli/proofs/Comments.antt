pub mod CommentInserted
pub mod CommentsCopied
pub mod CommentsPrinted
pub mod CommentsRead
pub mod HeadTaken
pub mod InsertedCopied
pub mod InsertedPieces
pub mod InsertedThen
