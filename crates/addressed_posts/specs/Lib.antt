pub mod AddressedPosts
